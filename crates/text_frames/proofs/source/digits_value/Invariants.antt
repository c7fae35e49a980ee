use Rattle.std.proofs.Common.{◌≡◌, ◌<◌, ◌^◌, drop}
use Rattle.ir_characters.specs.Texts.{codes_of}
use Rattle.ir_forest.specs.Meaning.{digits, digits_from}
use Rattle.text_frames.proofs.source.digits_value.Given as goal

abbrev pub invariant-loop-place : goal.invariant-loop-place
invariant-loop-place l = (l.value < 2 ^ 64) × (digits_from l.value (drop l.place (codes_of l.text)) ≡ digits (drop l.from (codes_of l.text)))
