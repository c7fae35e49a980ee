use Rattle.std.proofs.Common.{◌≡◌, drop}
use Rattle.ir_formats.specs.Rules.{texts, with_words}
use Rattle.ir_formats.proofs.rules.add_words.Given as goal

abbrev pub invariant-loop-word : goal.invariant-loop-word
invariant-loop-word l = with_words (texts l.words.items) (texts (drop l.word-index l.more)) ≡ with_words (texts l.fn.words.items) (texts l.more)
