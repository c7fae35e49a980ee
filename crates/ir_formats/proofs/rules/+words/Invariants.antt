use Rattle.std.proofs.Common.{◌≡◌, drop}
use Rattle.ir_print.specs.Formats.{steps_of, choices_of}
use Rattle.ir_formats.specs.Rules.{texts, with_words, words_in, words_in_choices}
use Rattle.ir_formats.proofs.rules.+words.Given as goal

abbrev pub invariant-add_format-loop-directive : goal.invariant-add_format-loop-directive
invariant-add_format-loop-directive l = with_words (texts l.words.items) (words_in (steps_of (drop l.directive-index l.format))) ≡ with_words (texts l.fn.words.items) (words_in (steps_of l.format))

abbrev pub invariant-add_directive-loop-format : goal.invariant-add_directive-loop-format
invariant-add_directive-loop-format l = with_words (texts l.words.items) (words_in_choices (choices_of (drop l.format-index l.alternatives)))
    ≡ with_words (texts l.fn.words.items) (words_in_choices (choices_of l.alternatives))
