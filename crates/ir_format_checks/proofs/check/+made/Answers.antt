use Rattle.std.proofs.Common.{ap, sym, ◌∙◌, ◌&&◌, not}
use Rattle.ir_format_checks.specs.Test.{is_made, all_made, is_operation}
use Rattle.ir_format_checks.proofs.FormatLoops.{and_false, is_choice, choices_turn, choices_end}
use Rattle.ir_format_checks.proofs.check.+made.Goals as goal

pub is_made-returns-then-not-are_made : goal.is_made-returns-then-not-are_made
is_made-returns-then-not-are_made t c =
    let left = choices_turn (all_made c.args.sort) c.in-Choice.alternatives.now c.loop-format.format-index _ _ c.loop-format-test.true c.loop-format.invariant in
    ap (λ b. b && not (is_operation c.args.sort)) (and_false _ _ _ left (sym c.are_made-in-loop-format.ensures ∙ c.if-not-are_made.true))
    ∙ sym (ap (is_made c.args.sort) (is_choice _ _ c.in-Choice.is))

pub is_made-returns-after-loop-format : goal.is_made-returns-after-loop-format
is_made-returns-after-loop-format t c =
    let whole = choices_end (all_made c.args.sort) c.in-Choice.alternatives.now c.loop-format.format-index _ c.loop-format-test.false c.loop-format.invariant in
    ap not c.is_operation-in-Choice.ensures ∙ ap (λ b. b && not (is_operation c.args.sort)) whole
    ∙ sym (ap (is_made c.args.sort) (is_choice _ _ c.in-Choice.is))
