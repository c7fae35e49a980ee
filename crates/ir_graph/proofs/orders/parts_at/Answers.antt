use Rattle.std.proofs.Common.{sym, subst}
use Rattle.ir_graph.specs.Graphs.{AreNodeNumbers}
use Rattle.ir_graph.proofs.Parts.{part_named, parts_more}
use Rattle.ir_graph.proofs.orders.parts_at.Goals as goal

pub nodes_at-requires : goal.nodes_at-requires
nodes_at-requires g c =
    let r = part_named c.args.nodes.now c.args.parts.now c.requires.0 c.requires.1 c.loop-part.part-index c.part-item.result c.loop-part-test.true c.part-item.is in
    (r.0, subst (λ xs. AreNodeNumbers c.args.nodes.now xs r.0) (sym c.deref.ensures.value) r.1)

pub loop-part-preserved : goal.loop-part-preserved
loop-part-preserved g c = parts_more c.args.nodes.now c.args.parts.now c.loop-part.rows.items c.push.new.self.items c.loop-part.part-index c.part-item.result c.in_ok-nodes_at.field-0 c.loop-part-test.true c.part-item.is
    (subst (λ xs. AreNodeNumbers c.args.nodes.now xs c.in_ok-nodes_at.field-0.items) c.deref.ensures.value c.in_ok-nodes_at.ensures) c.in_ok-push.ensures.items c.loop-part.invariant
