use Rattle.std.proofs.Common.{rules, length, get_or, refl, sym, ◌∙◌, subst, arith}
use Rattle.std.specs.Prelude.{Contains}
use Rattle.std.proofs.lemmas.Option.{slice_get_read}
use Rattle.std.proofs.lemmas.List.Elements.{Contains-get_or}
use Rattle.ir_graph.specs.Graphs.{AreNodeNumbers}
use Rattle.ir_graph.proofs.Numbers.{rows_more, all_rows}
use Rattle.ir_graph.proofs.numbering.successor_rows.Goals as goal

pub number_row-requires-clause-known : goal.number_row-requires-clause-known
number_row-requires-clause-known g c = λ k d h.
    let here = Contains-get_or c.args.nodes.now c.loop-node.node-index c.node-item.result c.loop-node-test.true in
    let node = subst (λ ns. Contains ns c.node-item.result) c.requires.nodes (subst (λ n. Contains c.args.nodes.now n) (sym c.node-item.is) here) in
    let next = subst (λ ns. Contains ns (get_or c.deref.result.now k d)) (c.deref.ensures.value ∙ c.in_ok-row.ensures) (Contains-get_or c.deref.result.now k d h) in
    subst (λ ks. Contains ks (get_or c.deref.result.now k d)) (sym (c.requires.set ∙ c.requires.nodes)) (g.met.G.ControlFlowGraph.onward c.args.graph.now c.args.ctx.now c.requires.graph c.node-item.result _ node next)

pub loop-node-preserved : goal.loop-node-preserved
loop-node-preserved g c =
    let next = g.G.ControlFlowGraph.successors_of c.args.graph.now c.args.ctx.now in
    rows_more next c.args.nodes.now c.loop-node.rows.items c.push.new.self.items c.in_ok-number_row.field-0 c.loop-node.node-index c.node-item.result
    (slice_get_read c.args.nodes.now (length c.args.nodes.now) c.loop-node.node-index c.node-item.result refl c.loop-node-test.true c.node-item.is) c.in_ok-push.ensures.items
    (subst (λ ks. AreNodeNumbers ks c.in_ok-number_row.field-0.items (next c.node-item.result)) c.requires.set
    (subst (λ ns. AreNodeNumbers c.args.set.now.keys c.in_ok-number_row.field-0.items ns) (c.deref.ensures.value ∙ c.in_ok-row.ensures) c.in_ok-number_row.ensures))
    c.loop-node.invariant

pub returns : goal.returns
returns g c =
    let ends = c.loop-node-test.false in
    let within = c.loop-node.auto.node-index-end in
    record {
      len = c.loop-node.invariant.len ∙ search rules;
      onward = all_rows (g.G.ControlFlowGraph.successors_of c.args.graph.now c.args.ctx.now) c.args.nodes.now c.loop-node.rows.items c.loop-node.node-index (omega (arith, ends)) c.loop-node.invariant;
    }
