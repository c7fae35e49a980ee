use Rattle.std.proofs.Common.{◌≡◌, Some, take}
use Rattle.std.specs.Vec.{vec_len}
use Rattle.ir_outlines.specs.Section.{attributes_of}
use Rattle.outline_tables.specs.Tables.{found_under, members_of, section_of}
use Rattle.outline_tables.proofs.tables.OutlineTable.attributes.Given as goal

-- what was found so far is what stands under as many keys
abbrev pub invariant-loop-member : goal.invariant-loop-member
invariant-loop-member g l =
    (attributes_of (section_of l.self) (take l.member-index (members_of l.references)) ≡ Some (found_under l.found.items))
    × (vec_len l.found ≡ l.member-index)
