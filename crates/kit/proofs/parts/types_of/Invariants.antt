use Rattle.std.proofs.Common.{◌≡◌, drop, option_map, ◌++◌}
use Rattle.kit.specs.Making.{each_type}
use Rattle.kit.proofs.parts.types_of.Given as goal

-- the types so far, and those of the members that are left, are the types of the members
abbrev pub invariant-loop-member : goal.invariant-loop-member
invariant-loop-member l = each_type l.members ≡ option_map (λ rest. l.types.items ++ rest) (each_type (drop l.member-index l.members))
