use Rattle.std.proofs.Common.{◌≡◌, take, Some, map, option_map}
use Rattle.ir_names.specs.Identifier.{text_of}
use Rattle.kit.specs.Making.{one_given_name, each_member}
use Rattle.kit.proofs.parts.names_in.Given as goal

-- the names so far are those of the members so far
abbrev pub invariant-loop-number : goal.invariant-loop-number
invariant-loop-number l = each_member one_given_name (take l.number l.members) ≡ Some (map (option_map text_of) l.names.items)
