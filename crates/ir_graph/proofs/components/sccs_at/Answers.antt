use Rattle.std.proofs.Common.{refl, sym, subst}
use Rattle.ir_graph.specs.Graphs.{AreNodeNumbers}
use Rattle.ir_graph.proofs.NamedSccs.{names_at, sccs_more}
use Rattle.ir_graph.proofs.components.sccs_at.Goals as goal

pub nodes_at-requires : goal.nodes_at-requires
nodes_at-requires g c =
    let r = names_at c.args.nodes.now c.args.parts.now c.loop-part.part-index c.part-item.result c.loop-part-test.true c.part-item.is c.requires in
    (r.0, subst (λ xs. AreNodeNumbers c.args.nodes.now xs r.0) (sym c.deref.ensures.value) r.1)

pub loop-part-preserved : goal.loop-part-preserved
loop-part-preserved g c =
    sccs_more c.args.nodes.now c.args.parts.now c.loop-part.named.items c.push.new.self.items c.loop-part.part-index c.part-item.result (record { nodes = c.in_ok-row.row; is_cyclic = c.part-item.result.is_cyclic }) c.loop-part-test.true c.part-item.is
    (subst (λ xs. AreNodeNumbers c.args.nodes.now xs c.in_ok-row.row.items) c.deref.ensures.value c.in_ok-row.ensures) refl c.in_ok-push.ensures.items c.loop-part.invariant
