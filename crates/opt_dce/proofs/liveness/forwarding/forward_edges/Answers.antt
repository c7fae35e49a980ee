use Rattle.std.proofs.Common.{sym, ◌∙◌, arith}
use Rattle.ir_program.specs.Program.{operation_at}
use Rattle.opt_inside.specs.Numbered.{numbers_of}
use Rattle.opt_dialect.proofs.Removing.{the_some, payload_is}
use Rattle.opt_dce.proofs.LivenessLemmas.Noting.{edges_step, edges_end}
use Rattle.opt_dce.proofs.liveness.forwarding.forward_edges.Goals as goal

pub loop-edge-preserved : goal.loop-edge-preserved
loop-edge-preserved g c =
    let view = the_some (operation_at c.args.program.now c.args.op) c.requires.live in
    let d = g.D.Meanings.meaning in
    edges_step g.D.Meanings.meaning c.args.program.now (numbers_of c.args.inside.now) c.args.op view.0 view.1 c.loop-edge.edge c.successor.result c.deref.result.now c.args.targets.now.items c.loop-edge.targets.items c.forward_along.new.targets.items
    (c.requires.branch view.0 view.1) c.successor.ensures.exact
    (c.deref.ensures.value ∙ (c.in_ok-indices.ensures ∙ (λ i. g.D.Meanings.meaning.forwards (sym (payload_is g.D.Meanings.meaning c.args.program.now c.args.op view.0 c.payload-payload.result.now c.payload-payload.ensures view.1) i) (c.operand_count-operands.ensures i) c.loop-edge.edge)))
    c.loop-edge.invariant c.forward_along.ensures

pub returns : goal.returns
returns g c =
    let view = the_some (operation_at c.args.program.now c.args.op) c.requires.live in
    edges_end g.D.Meanings.meaning c.args.program.now (numbers_of c.args.inside.now) c.args.op view.0 view.1 c.loop-edge.edge c.args.targets.now.items c.loop-edge.targets.items (let low = c.loop-edge.auto.edge-end in let high = c.loop-edge-test.false in let all = c.successor_count-edge-end.ensures in omega arith) c.loop-edge.invariant
