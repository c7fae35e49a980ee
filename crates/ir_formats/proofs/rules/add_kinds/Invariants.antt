use Rattle.std.proofs.Common.{◌≡◌, drop, map}
use Rattle.ir_formats.specs.Making.{kind_of}
use Rattle.ir_formats.specs.Rules.{texts, words_of_kinds, with_words}
use Rattle.ir_formats.proofs.rules.add_kinds.Given as goal

abbrev pub invariant-loop-kind : goal.invariant-loop-kind
invariant-loop-kind l = with_words (texts l.words.items) (words_of_kinds (drop l.kind-index (map kind_of l.kinds)))
    ≡ with_words (texts l.fn.words.items) (words_of_kinds (map kind_of l.kinds))
