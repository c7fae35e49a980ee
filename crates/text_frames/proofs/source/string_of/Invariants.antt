use Rattle.std.proofs.Common.{◌≡◌, ◌++◌, drop, chars, string_bytes}
use Rattle.ir_characters.specs.Texts.{codes_of}
use Rattle.ir_forest.specs.Meaning.{unescaped}
use Rattle.text_frames.proofs.Quotes.{left_from}
use Rattle.text_frames.proofs.source.string_of.Given as goal

abbrev pub invariant-loop-place : goal.invariant-loop-place
invariant-loop-place l = chars (string_bytes l.string) ++ left_from l.is_escape (drop l.place (codes_of l.text)) ≡ unescaped (drop 1 (codes_of l.text))
