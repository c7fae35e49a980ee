use Rattle.std.proofs.Common.{◌≡◌, ◌++◌, map, drop}
use Rattle.std.specs.Str.{chars}
use Rattle.ir_formats.specs.Rules.{texts}
use Rattle.ir_formats.specs.Words.{spellings}
use Rattle.ir_formats.proofs.words.spelled.Given as goal

abbrev pub invariant-loop-word : goal.invariant-loop-word
invariant-loop-word l = spellings l.all.items ++ map chars (texts (drop l.word-index l.words)) ≡ map chars (texts l.words)
