use Rattle.std.proofs.Common.{ap, sym, ◌∙◌}
use Rattle.ir_format_checks.specs.Decided.{may_be_empty, one_may_be_empty}
use Rattle.token_classes.proofs.FormatLoops.{or_true, is_choice, choices_turn, choices_end}
use Rattle.token_classes.proofs.beginnings.+empty.Goals as goal

pub may_be_empty-returns-then-all_may_be_empty : goal.may_be_empty-returns-then-all_may_be_empty
may_be_empty-returns-then-all_may_be_empty t c =
    let left = choices_turn one_may_be_empty c.in-Choice.alternatives.now c.loop-format.format-index _ _ c.loop-format-test.true c.loop-format.invariant in
    or_true _ _ _ left (sym c.all_may_be_empty.ensures ∙ c.if-all_may_be_empty.true) ∙ sym (ap may_be_empty (is_choice _ _ c.in-Choice.is))

pub may_be_empty-returns-after-loop-format : goal.may_be_empty-returns-after-loop-format
may_be_empty-returns-after-loop-format t c =
    choices_end one_may_be_empty c.in-Choice.alternatives.now c.loop-format.format-index _ c.loop-format-test.false c.loop-format.invariant
    ∙ sym (ap may_be_empty (is_choice _ _ c.in-Choice.is))
