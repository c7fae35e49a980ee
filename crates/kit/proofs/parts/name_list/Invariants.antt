use Rattle.std.proofs.Common.{take, option_map}
use Rattle.ir_names.specs.Identifier.{text_of}
use Rattle.ir_print.specs.Shown.{Pairs}
use Rattle.kit.specs.Parts.{AreGivenNameParts}
use Rattle.kit.proofs.parts.name_list.Given as goal

-- each of the names so far is a member
abbrev pub invariant-loop-name : goal.invariant-loop-name
invariant-loop-name l = Pairs (λ m o. AreGivenNameParts m.items (option_map text_of o)) l.members.items (take l.name-index l.names)
