use Rattle.std.proofs.Common.{◌≡◌, ◌^◌, ◌<◌, take}
use Rattle.std.specs.Str.Parse.{digits_value}
use Rattle.ir_characters.specs.Texts.{codes_of}
use Rattle.text_marking.proofs.taking.number_of.Given as goal

abbrev pub invariant-loop-place : goal.invariant-loop-place
invariant-loop-place l = (l.number ≡ digits_value 10 (take l.place (codes_of l.digits))) × (l.number < 2 ^ 64)
