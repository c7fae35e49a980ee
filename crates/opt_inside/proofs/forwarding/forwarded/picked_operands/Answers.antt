use Rattle.std.proofs.Common.{ap, ◌∙◌, get_or, arith}
use Rattle.std.proofs.lemmas.Option.{slice_get-get_or}
use Rattle.ir_program.specs.Rows.{operands_at}
use Rattle.opt_inside.proofs.ForwardingLemmas.Picked.{picked_more, picked_none, picked_all}
use Rattle.opt_inside.proofs.forwarding.forwarded.picked_operands.Goals as goal
use Rattle.opt_inside.proofs.forwarding.forwarded.picked_operands.Goals.{then-index-count+in_ok-push, else-index-count}

pub loop-index-preserved : goal.loop-index-preserved
loop-index-preserved g c =
    let all = operands_at c.args.program.now c.args.op in
    let is = c.args.indices.now in
    let j = c.loop-index.index-index in
    elim c.if-index-count.branch [
      | then-index-count+in_ok-push w ↦ picked_more all is j (get_or is j 0) w.operand.result c.loop-index.values.items c.if-index-count.values.items (slice_get-get_or is j 0 (omega arith)) w.operand.ensures.exact (ap (λ x. x.items) w.values-is ∙ w.in_ok-push.ensures.items) c.loop-index.invariant
      | else-index-count w ↦ picked_none all is j (get_or is j 0) c.if-index-count.values.items (slice_get-get_or is j 0 (omega arith)) (omega arith) (ap (λ x. x.items) w.values-is ∙ c.loop-index.invariant)
    ]

pub returns : goal.returns
returns g c = picked_all (operands_at c.args.program.now c.args.op) c.args.indices.now c.loop-index.index-index c.loop-index.values.items (omega arith) c.loop-index.invariant
