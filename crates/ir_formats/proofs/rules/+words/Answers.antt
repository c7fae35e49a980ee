use Rattle.std.proofs.Common.{sym, ◌∙◌, ap}
use Rattle.ir_formats.specs.Rules.{texts, with_words, words_in_step}
use Rattle.ir_print.proofs.FormatSteps.{step_of-Choice}
use Rattle.ir_formats.proofs.Makes.{words_more, choice_words_more, choice_words_done}
use Rattle.ir_formats.proofs.rules.+words.Goals as goal

pub add_format-loop-directive-preserved : goal.add_format-loop-directive-preserved
add_format-loop-directive-preserved t c = let h = c.directive-item.is in words_more c.args.format.now c.loop-directive.directive-index _ _ _ _ c.loop-directive-test.true h c.loop-directive.invariant c.in_ok-add_directive.ensures

pub add_directive-loop-format-preserved : goal.add_directive-loop-format-preserved
add_directive-loop-format-preserved t c = choice_words_more c.in-Choice.alternatives.now c.loop-format.format-index _ _ _ _ c.loop-format-test.true c.loop-format.invariant c.in_ok-add_format-in-Choice.ensures

pub add_directive-returns-after-loop-format : goal.add_directive-returns-after-loop-format
add_directive-returns-after-loop-format t c =
    let done = choice_words_done c.in-Choice.alternatives.now c.loop-format.format-index _ _ c.loop-format-test.false c.loop-format.invariant in
    rw c.in-Choice.is (done ∙ ap (λ s. with_words (texts c.args.words.now.items) (words_in_step s)) (sym (step_of-Choice c.in-Choice.alternatives)))
