use Rattle.std.proofs.Common.{◌≡◌, ◌++◌, drop}
use Rattle.text_frames.specs.Makes.{types_in}
use Rattle.text_frames.proofs.making.types_of.Given as goal

abbrev pub invariant-loop-part : goal.invariant-loop-part
invariant-loop-part g l = types_in l.parts ≡ l.types.items ++ types_in (drop l.part-index l.parts)
