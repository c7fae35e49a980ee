use Rattle.std.proofs.Common.{◌≡◌, take, Some}
use Rattle.kit.specs.Making.{one_size, each_member}
use Rattle.kit.proofs.parts.sizes_in.Given as goal

-- the numbers so far are those of the members so far
abbrev pub invariant-loop-number : goal.invariant-loop-number
invariant-loop-number l = each_member one_size (take l.number l.members) ≡ Some l.sizes.items
