use Rattle.ir_print.proofs.FormatSteps.{step_of-Choice}
use Rattle.ir_formats.proofs.Makes.{format_more, choices_begun, choices_more, choices_done}
use Rattle.ir_formats.proofs.rules.RuleMaker.+formats.Goals as goal

pub format-loop-directive-preserved : goal.format-loop-directive-preserved
format-loop-directive-preserved t c = let h = c.directive-item.is in format_more c.args.format.now c.loop-directive.directive-index _ _ _ _ _ _ _ _ c.loop-directive-test.true h c.loop-directive.invariant c.in_ok-directive.ensures

pub directive-loop-number-init : goal.directive-loop-number-init
directive-loop-number-init t c = choices_begun c.in-Choice.alternatives.now _ _ _ c.choice_part-choice.ensures.next

pub directive-loop-number-preserved : goal.directive-loop-number-preserved
directive-loop-number-preserved t c =
    choices_more c.in-Choice.alternatives.now c.loop-number.number _ _ _ _ _ _ _ _ _ c.loop-number-test.true c.loop-number.invariant
    c.in_ok-body-in-Choice.ensures c.in_ok-format-in-Choice.ensures c.in_ok-alternative-in-Choice.ensures

pub directive-returns-after-loop-number : goal.directive-returns-after-loop-number
directive-returns-after-loop-number t c =
    let done = choices_done c.in-Choice.alternatives.now c.loop-number.number _ _ _ _ _ _ c.loop-number-test.false c.choice_part-choice.ensures.part
    c.choice_part-choice.ensures.next c.in_ok-push-in-Choice.ensures.items c.loop-number.invariant in
    rw c.in-Choice.is (rw (step_of-Choice c.in-Choice.alternatives) done)
