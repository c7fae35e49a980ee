use Rattle.std.proofs.Common.{◌≡◌, take, map}
use Rattle.kit_flat.specs.View.{numbers_of}
use Rattle.kit_flat.proofs.frames.gather.Given as goal

abbrev pub invariant-loop-name : goal.invariant-loop-name
invariant-loop-name l = l.into.items ≡ map (numbers_of l.values) (take l.name-index l.names)
