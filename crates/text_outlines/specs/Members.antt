-- What stands under the keys of an entry.
use Rattle.std.specs.Prelude.{◌≡◌, ◌<◌, ◌≤◌, ◌++◌, ◌⊎◌, true, false, List, [], ◌∷◌, Ok, Err}
use Rattle.std.specs.List.{FoldsTo}
use Rattle.ir_names.specs.Identifier.{text_of}
use Rattle.ir_names.specs.declared.identifier.Identifier.{Identifier}
use Rattle.outline_tables.specs.declared.entries.Reference.{Reference}
use Rattle.outline_tables.specs.declared.entries.Reference.TheVariants.{Here, AtMark}
use Rattle.parsed_names.specs.Names.{Names, is_defined, known_of, knowing}
use Rattle.parsed_names.specs.declared.names.Known.TheVariants.{Defined}
use Rattle.text_marks.specs.Marks.{begins_with_mark, ReadsNumberOfMark, RefusesMark}
use Rattle.text_streams.specs.declared.stream.StateStream.{StateStream}
use Rattle.text_streams.specs.declared.position.Position.{Position}
use Rattle.text_streams.specs.declared.faults.ParseFault.{ParseFault}
use Rattle.text_streams.specs.declared.faults.TextError.TheVariants.{AttributeRedefined, Syntax}
use Rattle.text_streams.specs.Positions.{bytes_left, left}
use Rattle.text_streams.specs.Spaces.{SkipsSpaces}
use Rattle.text_locations.specs.Faults.{IsFaultAt, IsMemory}
use Rattle.text_locations.specs.Locations.{Answers, At, Parser}
use Rattle.text_outlines.specs.Names.{ReadsName, RefusesName}
use Rattle.text_outlines.specs.Signs.{ReadsSign, IsWithout, MissesSign, Takes}

-- the keys that an entry has so far
abbrev pub Keys : Type 0
Keys = Names (Unit {0})

-- The key isn't there yet, and is from here on.
abbrev pub Notes : Keys → Identifier → Keys → Type 0
Notes old name new = (is_defined (known_of old (text_of name)) ≡ false) × (new ≡ knowing old (text_of name) (Defined tt))

-- It is there, and redefined at its place; or memory was refused.
abbrev pub RefusesNote : Keys → Identifier → Position → ParseFault → Type 0
RefusesNote old name place fault = IsMemory fault
    ⊎ ((is_defined (known_of old (text_of name)) ≡ true) × IsFaultAt place AttributeRedefined fault)

-- white space was read, and a key that the entry doesn't have yet
pub record ReadsKey {S : Type 0} (keys : Keys) (old : StateStream S) (name : Identifier) (more : Keys) (new : StateStream S) : Type 0 where
  pub here : StateStream S
  pub spaces : SkipsSpaces old here
  pub name_read : ReadsName here name new
  pub notes : Notes keys name more

-- why none was read: behind the white space no name is, or one that the entry has
abbrev pub RefusesKey : {S : Type 0} → Keys → StateStream S → ParseFault → Type 0
RefusesKey {S} keys old fault = (here : StateStream S) × SkipsSpaces old here
    × (RefusesName here fault
    ⊎ ((name : Identifier) × (behind : StateStream S) × ReadsName here name behind × RefusesNote keys name here.position fault))

-- the mark was read, which is here; or no `!` is here, and one call of the parser answered the attribute
abbrev pub ReadsReference : {F S A : Type 0} → Parser F S A → At F S → Reference A → At F S → Type 0
ReadsReference parser v (AtMark mark) w =
    (begins_with_mark (left v.1.position) ≡ true) × ReadsNumberOfMark v.1 w.1 mark × (w.0 ≡ v.0)
ReadsReference parser v (Here a) w = (begins_with_mark (left v.1.position) ≡ false) × Answers parser v (Ok a) w

-- why neither was read: no number below 2^64 is behind a `!`; or no `!` is here, and one call of the parser answered this fault
abbrev pub RefusesReference : {F S A : Type 0} → Parser F S A → At F S → ParseFault → Type 0
RefusesReference {F} {S} parser v fault =
    ((begins_with_mark (left v.1.position) ≡ true) × (behind : StateStream S) × RefusesMark v.1 behind fault)
    ⊎ ((begins_with_mark (left v.1.position) ≡ false) × (end : At F S) × Answers parser v (Err fault) end)

-- the keys so far, the parser with what it keeps, and the stream
abbrev pub Among : (F S : Type 0) → Type 0
Among F S = Keys × At F S

-- `=` (61) stands between a key, which is none of those so far, and what stands under it.
pub record ReadsMember {F S A : Type 0} (parser : Parser F S A) (p : Among F S) (member : Identifier × Reference A) (q : Among F S) : Type 0 where
  pub behind_key : StateStream S
  pub key : ReadsKey p.0 p.1.1 member.0 q.0 behind_key
  pub behind_sign : StateStream S
  pub equals : ReadsSign 61 behind_key behind_sign
  pub start : StateStream S
  pub spaces : SkipsSpaces behind_sign start
  pub reference : ReadsReference parser (p.1.0, start) member.1 q.1

-- A member was read, and a `,` (44) behind it. They leave less to be read than there was: that could be otherwise only behind a parser that
-- goes back in the text.
pub record ReadsNext {F S A : Type 0} (parser : Parser F S A) (p : Among F S) (member : Identifier × Reference A) (q : Among F S) : Type 0 where
  pub end : At F S
  pub member_read : ReadsMember parser p member (q.0, end)
  pub comma : Takes 44 end q.1
  pub takes : bytes_left q.1.1.position < bytes_left p.1.1.position

-- members were read, one after another, each with a `,` behind it; before the first one no keys were
abbrev pub AreRead : {F S A : Type 0} → Parser F S A → At F S → List (Identifier × Reference A) → Among F S → Type 0
AreRead parser v members q = FoldsTo (ReadsNext parser) ([], v) members q

-- one member at least, with a `,` between two, and the `]` (93)
pub record ReadsSome {F S A : Type 0} (parser : Parser F S A) (v : At F S) (members : List (Identifier × Reference A)) (w : At F S) : Type 0 where
  pub without : IsWithout 93 v.1
  pub others : List (Identifier × Reference A)
  pub last : Identifier × Reference A
  pub all : members ≡ others ++ last ∷ []
  pub at : Among F S
  pub others_read : AreRead parser v others at
  pub end : Among F S
  pub last_read : ReadsMember parser at last end
  pub closes : Takes 93 end.1 w

-- that, or the `]` alone
abbrev pub ReadsMembers : {F S A : Type 0} → Parser F S A → At F S → List (Identifier × Reference A) → At F S → Type 0
ReadsMembers parser v members w = ((members ≡ []) × Takes 93 v w) ⊎ ReadsSome parser v members w

-- ---- refusals

-- why no member was read: its key is refused; no `=` is behind the key; or what stands under the key is refused
abbrev pub RefusesMember : {F S A : Type 0} → Parser F S A → Among F S → ParseFault → Type 0
RefusesMember {F} {S} parser p fault =
    RefusesKey p.0 p.1.1 fault
    ⊎ ((name : Identifier) × (keys : Keys) × (behind_key : StateStream S) × ReadsKey p.0 p.1.1 name keys behind_key
    × (MissesSign 61 behind_key fault
    ⊎ ((behind_sign : StateStream S) × ReadsSign 61 behind_key behind_sign × (start : StateStream S) × SkipsSpaces behind_sign start
    × RefusesReference parser (p.1.0, start) fault)))

-- why the next member isn't read with what has to be behind it: it is refused; no `]` and no `,` is behind it; with the `,` it takes nothing
abbrev pub RefusesNext : {F S A : Type 0} → Parser F S A → Among F S → ParseFault → Type 0
RefusesNext {F} {S} {A} parser p fault =
    RefusesMember parser p fault
    ⊎ ((member : Identifier × Reference A) × (q : Among F S) × ReadsMember parser p member q × IsWithout 93 q.1.1
    × (MissesSign 44 q.1.1 fault
    ⊎ ((behind : At F S) × Takes 44 q.1 behind × (fault.cause ≡ Syntax) × (bytes_left p.1.1.position ≤ bytes_left behind.1.position))))

-- why no members were read, behind some that were
pub record RefusesSome {F S A : Type 0} (parser : Parser F S A) (v : At F S) (fault : ParseFault) : Type 0 where
  pub without : IsWithout 93 v.1
  pub others : List (Identifier × Reference A)
  pub at : Among F S
  pub others_read : AreRead parser v others at
  pub why : RefusesNext parser at fault

-- that, or memory was refused
abbrev pub RefusesMembers : {F S A : Type 0} → Parser F S A → At F S → ParseFault → Type 0
RefusesMembers parser v fault = IsMemory fault ⊎ RefusesSome parser v fault
