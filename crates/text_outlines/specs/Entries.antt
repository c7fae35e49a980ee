-- What texts an entry has.
use Rattle.std.specs.Prelude.{◌⊎◌, Option, None, Some, Ok, Err}
use Rattle.ir_locations.specs.declared.location.Location.{Location}
use Rattle.outline_tables.specs.declared.entries.Entry.{Entry}
use Rattle.outline_tables.specs.declared.entries.Entry.TheVariants.{Bracketed, Single}
use Rattle.text_streams.specs.declared.faults.ParseFault.{ParseFault}
use Rattle.text_locations.specs.Locations.{Answers, At, Parser, Skips, ReadsLocation, RefusesLocation}
use Rattle.text_outlines.specs.Members.{ReadsMembers, RefusesMembers}
use Rattle.text_outlines.specs.Signs.{IsWithout, MissesSign, Takes}

-- Behind the `@` of an entry: `[` (91), a location in which up to 64 are in one another, `]` (93), `,` (44) and the `[` of what stands
-- under keys.
pub record ReadsPlace {F S A : Type 0} (parser : Parser F S A) (v : At F S) (location : Location A) (w : At F S) : Type 0 where
  pub opened : At F S
  pub opens : Takes 91 v opened
  pub start : At F S
  pub spaces : Skips opened start
  pub end : At F S
  pub location_read : ReadsLocation parser 64 start location end
  pub closed : At F S
  pub closes : Takes 93 end closed
  pub behind : At F S
  pub comma : Takes 44 closed behind
  pub opens_members : Takes 91 behind w

-- what is before the members of an entry: `@` (64) and a location in brackets; or the `[` alone
abbrev pub ReadsFront : {F S A : Type 0} → Parser F S A → At F S → Option (Location A) → At F S → Type 0
ReadsFront {F} {S} parser v (Some location) w = (behind : At F S) × Takes 64 v behind × ReadsPlace parser behind location w
ReadsFront parser v None w = IsWithout 64 v.1 × Takes 91 v w

-- White space and an entry were read: in brackets, maybe with a location before them; or neither `@` nor `[` is behind the white space, and
-- one call of the parser answered the attribute.
abbrev pub ReadsEntry : {F S A : Type 0} → Parser F S A → At F S → Entry A (Location A) → At F S → Type 0
ReadsEntry {F} {S} parser v (Bracketed location attributes) w =
    (behind : At F S) × ReadsFront parser v location behind × ReadsMembers parser behind attributes.items w
ReadsEntry {F} {S} parser v (Single a) w =
    IsWithout 64 v.1 × IsWithout 91 v.1 × (start : At F S) × Skips v start × Answers parser start (Ok a) w

-- ---- refusals

-- why there is no location behind the `@` with what has to be around it: a sign isn't there, or the location is refused
abbrev pub RefusesPlace : {F S A : Type 0} → Parser F S A → At F S → ParseFault → Type 0
RefusesPlace {F} {S} {A} parser v fault =
    MissesSign 91 v.1 fault
    ⊎ ((opened : At F S) × Takes 91 v opened × (start : At F S) × Skips opened start
    × (RefusesLocation parser 64 start fault
    ⊎ ((location : Location A) × (end : At F S) × ReadsLocation parser 64 start location end
    × (MissesSign 93 end.1 fault
    ⊎ ((closed : At F S) × Takes 93 end closed
    × (MissesSign 44 closed.1 fault
    ⊎ ((behind : At F S) × Takes 44 closed behind × MissesSign 91 behind.1 fault)))))))

-- behind the `@` of an entry: the location is refused, or the members are
abbrev pub RefusesPlaced : {F S A : Type 0} → Parser F S A → At F S → ParseFault → Type 0
RefusesPlaced {F} {S} {A} parser v fault =
    RefusesPlace parser v fault
    ⊎ ((location : Location A) × (behind : At F S) × ReadsPlace parser v location behind × RefusesMembers parser behind fault)

-- why no entry was read: what is behind its `@` is refused, or what is behind its `[`; or neither is there, and one call of the parser
-- answered this fault
abbrev pub RefusesEntry : {F S A : Type 0} → Parser F S A → At F S → ParseFault → Type 0
RefusesEntry {F} {S} parser v fault =
    ((behind : At F S) × Takes 64 v behind × RefusesPlaced parser behind fault)
    ⊎ (((behind : At F S) × IsWithout 64 v.1 × Takes 91 v behind × RefusesMembers parser behind fault)
    ⊎ (IsWithout 64 v.1 × IsWithout 91 v.1 × (start : At F S) × Skips v start × (end : At F S) × Answers parser start (Err fault) end))
