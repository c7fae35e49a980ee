use Rattle.std.proofs.Common.{◌≡◌, ap, ◌∙◌, arith, drop, take, subst}
use Rattle.std.proofs.lemmas.List.{length-take}
use Rattle.std.specs.String.{string_bytes}
use Rattle.std.specs.Prelude.{Some, slice_get}
use Rattle.ir_program.specs.Rows.{operands_at}
use Rattle.text_printing.proofs.Owed.{owed_at, owed_past, separated, not_separated, get_taken}
use Rattle.text_printing.proofs.RowsOwed.{operands_row, name_printed}
use Rattle.text_printing.proofs.operations.print_operands.Goals as goal
use Rattle.text_printing.proofs.operations.print_operands.Goals.{then-not-is_first+in_ok-push_str, else-not-is_first}

pub loop-index-preserved : goal.loop-index-preserved
loop-index-preserved g c =
    let vs = operands_at c.args.ctx.now.program c.args.op in
    let at : slice_get vs c.loop-index.index ≡ Some c.operand.result =
    subst (λ p. slice_get (operands_at p c.args.op) c.loop-index.index ≡ Some c.operand.result) c.program-program.ensures c.operand.ensures.exact in
    owed_at operands_row c.operand.result (drop c.args.from (take c.args.to vs)) (take c.args.to vs) c.loop-index.index
    c.loop-index.is_first (string_bytes c.args.out.now) (string_bytes c.loop-index.out) _ _
    (get_taken vs c.loop-index.index c.args.to c.operand.result at (omega arith)) c.loop-index.invariant
    (elim c.if-not-is_first.branch [
      | then-not-is_first+in_ok-push_str w ↦ separated _ c.loop-index.is_first _ _ w.if-not-is_first.true (ap string_bytes w.out-is ∙ w.in_ok-push_str.ensures.bytes)
      | else-not-is_first w ↦ not_separated _ c.loop-index.is_first _ _ w.if-not-is_first.false (ap string_bytes w.out-is)
    ])
    (name_printed c.operand.result _ _ c.in_ok-print_value.ensures)

pub returns : goal.returns
returns g c xs rest h =
    let vs = operands_at c.args.ctx.now.program c.args.op in
    owed_past operands_row (drop c.args.from (take c.args.to vs)) (take c.args.to vs) c.loop-index.index c.loop-index.is_first
    (string_bytes c.args.out.now) (string_bytes c.loop-index.out) (omega (arith, length-take c.args.to vs)) c.loop-index.invariant
    xs rest h
