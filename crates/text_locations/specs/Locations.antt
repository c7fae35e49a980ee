-- What texts a location has.
use Rattle.std.specs.Prelude.{ℕ, zero, suc, ◌≡◌, ◌<◌, ◌≤◌, ◌++◌, ◌⊎◌, Bool, true, false, List, [], ◌∷◌, Option, None, Some, Result, Ok, Err}
use Rattle.std.specs.Borrow.{MutBor}
use Rattle.std.specs.Fn.{Mut, CalledAtMut}
use Rattle.std.specs.List.{FoldsTo}
use Rattle.std.specs.declared.alloc.Global.{Global}
use Rattle.std.specs.declared.boxed.Box.{Box}
use Rattle.std.specs.declared.string.String.{String}
use Rattle.std.specs.declared.vec.Vec.{Vec}
use Rattle.ir_locations.specs.declared.location.Location.{Location}
use Rattle.ir_locations.specs.declared.location.Location.TheViews as locations
use Rattle.ir_locations.specs.declared.location.Location.TheVariants as whole
use Rattle.text_streams.specs.declared.stream.StateStream.{StateStream}
use Rattle.text_streams.specs.declared.faults.ParseFault.{ParseFault}
use Rattle.text_streams.specs.declared.faults.TextError.TheVariants.{Syntax, TooDeep}
use Rattle.text_streams.specs.Positions.{bytes_left}
use Rattle.text_streams.specs.Spaces.{SkipsSpaces}
use Rattle.text_locations.specs.declared.firsts.First.{First}
use Rattle.text_locations.specs.declared.firsts.First.TheVariants as firsts
use Rattle.text_locations.specs.declared.tokens.Token.{Token}
use Rattle.text_locations.specs.declared.tokens.Token.TheVariants.{Comma, Opens, Closes, Less, Greater}
use Rattle.text_locations.specs.Faults.{IsFaultAt, IsMemory}
use Rattle.text_locations.specs.Tokens.{ReadsToken, IsWithout, MissesToken, ReadsName, RefusesName}
use Rattle.text_locations.specs.Firsts.{ReadsFirst, RefusesFirst}
use Rattle.text_locations.specs.Places.{ReadsPlace, RefusesPlace}

-- a parser of metadata
abbrev pub Parser : (F S A : Type 0) → Type 1
Parser F S A = Mut F (MutBor (StateStream S) × Unit {0}) (Result A ParseFault × (MutBor (StateStream S) × Unit {0}))

-- the parser, with what it keeps, and the stream
abbrev pub At : (F S : Type 0) → Type 0
At F S = F × StateStream S

-- the parser was called once, and answered this
abbrev pub Answers : {F S A : Type 0} → Parser F S A → At F S → Result A ParseFault → At F S → Type 0
Answers parser v result w = CalledAtMut parser v.0 v.1 result w.0 w.1

-- a location was read between these, and why none was read from here
abbrev pub Reader : (F S A : Type 0) → Type 1
Reader F S A = At F S → Location A → At F S → Type 0

abbrev pub Refuser : (F S : Type 0) → Type 1
Refuser F S = At F S → ParseFault → Type 0

-- the token was read, and the parser wasn't called
abbrev pub Takes : {F S : Type 0} → Token → At F S → At F S → Type 0
Takes token v w = ReadsToken token v.1 w.1 × (w.0 ≡ v.0)

-- white space was read, and the parser wasn't called
abbrev pub Skips : {F S : Type 0} → At F S → At F S → Type 0
Skips v w = SkipsSpaces v.1 w.1 × (w.0 ≡ v.0)

-- ---- metadata

-- `<`, what the parser reads and `>`, where there is room for that; or no `<` is there
abbrev pub ReadsMetadata : {F S A : Type 0} → Parser F S A → Bool → At F S → Option A → At F S → Type 0
ReadsMetadata parser has_room v None w = IsWithout Less v.1 × (w ≡ v)
ReadsMetadata {F} {S} parser has_room v (Some a) w =
    (has_room ≡ true) × (behind : At F S) × Takes Less v behind × (start : At F S) × Skips behind start
    × (end : At F S) × Answers parser start (Ok a) end × Takes Greater end w

-- why there is a `<` and no metadata: there is no room for that; the parser answered this fault; there is no `>`
abbrev pub RefusesMetadata : {F S A : Type 0} → Parser F S A → Bool → At F S → ParseFault → Type 0
RefusesMetadata {F} {S} {A} parser has_room v fault =
    (behind : At F S) × Takes Less v behind × (start : At F S) × Skips behind start
    × (((has_room ≡ false) × IsFaultAt start.1.position TooDeep fault)
    ⊎ ((has_room ≡ true) × (end : At F S) × (Answers parser start (Err fault) end
    ⊎ ((a : A) × Answers parser start (Ok a) end × MissesToken Greater end.1 fault))))

-- ---- locations in a location, each behind white space

abbrev pub ReadsNext : {F S A : Type 0} → Reader F S A → At F S → Location A → At F S → Type 0
ReadsNext {F} {S} inner v l w = (start : At F S) × Skips v start × inner start l w

abbrev pub RefusesNext : {F S : Type 0} → Refuser F S → At F S → ParseFault → Type 0
RefusesNext {F} {S} refuses v fault = (start : At F S) × Skips v start × refuses start fault

-- A member of a fused location was read, and a `,` behind it. They leave less to be read than there was: that could be otherwise only
-- behind a parser that goes back in the text.
pub record ReadsMember {F S A : Type 0} (inner : Reader F S A) (v : At F S) (l : Location A) (w : At F S) : Type 0 where
  pub end : At F S
  pub read : ReadsNext inner v l end
  pub comma : Takes Comma end w
  pub takes : bytes_left w.1.position < bytes_left v.1.position

-- members were read, one after another, each with a `,` behind it
abbrev pub AreRead : {F S A : Type 0} → Reader F S A → At F S → List (Location A) → At F S → Type 0
AreRead inner = FoldsTo (ReadsMember inner)

-- one member at least, with a `,` between two, and the `]`
pub record ReadsSome {F S A : Type 0} (inner : Reader F S A) (v : At F S) (ls : List (Location A)) (w : At F S) : Type 0 where
  pub without : IsWithout Closes v.1
  pub others : List (Location A)
  pub last : Location A
  pub all : ls ≡ others ++ last ∷ []
  pub at : At F S
  pub read : AreRead inner v others at
  pub end : At F S
  pub last_read : ReadsNext inner at last end
  pub closes : Takes Closes end w

-- that, or the `]` alone
abbrev pub ReadsMembers : {F S A : Type 0} → Reader F S A → At F S → List (Location A) → At F S → Type 0
ReadsMembers inner v ls w = ((ls ≡ []) × Takes Closes v w) ⊎ ReadsSome inner v ls w

-- why the next member isn't read with what has to be behind it: it is refused; no `]` and no `,` is behind it; with the `,` it takes nothing
abbrev pub RefusesMember : {F S A : Type 0} → Reader F S A → Refuser F S → At F S → ParseFault → Type 0
RefusesMember {F} {S} {A} inner refuses at fault =
    RefusesNext refuses at fault
    ⊎ ((l : Location A) × (end : At F S) × ReadsNext inner at l end × IsWithout Closes end.1
    × (MissesToken Comma end.1 fault
    ⊎ ((behind : At F S) × Takes Comma end behind × (fault.cause ≡ Syntax) × (bytes_left at.1.position ≤ bytes_left behind.1.position))))

-- why no members were read, behind some that were
pub record RefusesSome {F S A : Type 0} (inner : Reader F S A) (refuses : Refuser F S) (v : At F S) (fault : ParseFault) : Type 0 where
  pub without : IsWithout Closes v.1
  pub others : List (Location A)
  pub at : At F S
  pub read : AreRead inner v others at
  pub why : RefusesMember inner refuses at fault

abbrev pub RefusesMembers : {F S A : Type 0} → Reader F S A → Refuser F S → At F S → ParseFault → Type 0
RefusesMembers inner refuses v fault = IsMemory fault ⊎ RefusesSome inner refuses v fault

-- the last location in a location, and the `]`
abbrev pub ReadsLast : {F S A : Type 0} → Reader F S A → At F S → Location A → At F S → Type 0
ReadsLast {F} {S} inner v l w = (end : At F S) × ReadsNext inner v l end × Takes Closes end w

abbrev pub RefusesLast : {F S A : Type 0} → Reader F S A → Refuser F S → At F S → ParseFault → Type 0
RefusesLast {F} {S} {A} inner refuses v fault =
    IsMemory fault ⊎ (RefusesNext refuses v fault
    ⊎ ((l : Location A) × (end : At F S) × ReadsNext inner v l end × MissesToken Closes end.1 fault))

-- ---- what is behind the first token of each kind of location

pub record ReadsFused {F S A : Type 0} (parser : Parser F S A) (has_room : Bool) (inner : Reader F S A) (v : At F S) (l : Location A) (w : At F S) : Type 0 where
  pub metadata : Option A
  pub members : Vec (Location A) Global
  pub is : l ≡ locations.Fused metadata members
  pub behind : At F S
  pub metadata_read : ReadsMetadata parser has_room v metadata behind
  pub opened : At F S
  pub opens : Takes Opens behind opened
  pub members_read : ReadsMembers inner opened members.items w

abbrev pub RefusesFused : {F S A : Type 0} → Parser F S A → Bool → Reader F S A → Refuser F S → At F S → ParseFault → Type 0
RefusesFused {F} {S} {A} parser has_room inner refuses v fault =
    RefusesMetadata parser has_room v fault
    ⊎ ((metadata : Option A) × (behind : At F S) × ReadsMetadata parser has_room v metadata behind
    × (MissesToken Opens behind.1 fault
    ⊎ ((opened : At F S) × Takes Opens behind opened × RefusesMembers inner refuses opened fault)))

pub record ReadsNamed {F S A : Type 0} (inner : Reader F S A) (v : At F S) (l : Location A) (w : At F S) : Type 0 where
  pub name : String Global
  pub child : Box (Location A) Global
  pub is : l ≡ locations.Named name child
  pub behind : StateStream S
  pub name_read : ReadsName v.1 name behind
  pub child_read : ReadsLast inner (v.0, behind) child.value w

abbrev pub RefusesNamed : {F S A : Type 0} → Reader F S A → Refuser F S → At F S → ParseFault → Type 0
RefusesNamed {F} {S} {A} inner refuses v fault =
    RefusesName v.1 fault
    ⊎ ((name : String Global) × (behind : StateStream S) × ReadsName v.1 name behind × RefusesLast inner refuses (v.0, behind) fault)

pub record ReadsCallSite {F S A : Type 0} (inner : Reader F S A) (v : At F S) (l : Location A) (w : At F S) : Type 0 where
  pub callee : Box (Location A) Global
  pub caller : Box (Location A) Global
  pub is : l ≡ locations.CallSite callee caller
  pub opened : At F S
  pub opens : Takes Opens v opened
  pub between : At F S
  pub callee_read : ReadsNext inner opened callee.value between
  pub behind : At F S
  pub comma : Takes Comma between behind
  pub caller_read : ReadsLast inner behind caller.value w

abbrev pub RefusesCallSite : {F S A : Type 0} → Reader F S A → Refuser F S → At F S → ParseFault → Type 0
RefusesCallSite {F} {S} {A} inner refuses v fault =
    IsMemory fault
    ⊎ (MissesToken Opens v.1 fault
    ⊎ ((opened : At F S) × Takes Opens v opened
    × (RefusesNext refuses opened fault
    ⊎ ((callee : Location A) × (between : At F S) × ReadsNext inner opened callee between
    × (MissesToken Comma between.1 fault
    ⊎ ((behind : At F S) × Takes Comma between behind × RefusesLast inner refuses behind fault))))))

-- what is behind the first token was read, and with that the location
abbrev pub ReadsBehind : {F S A : Type 0} → Parser F S A → Bool → Reader F S A → First → At F S → Location A → At F S → Type 0
ReadsBehind parser has_room inner firsts.Unknown v l w = (l ≡ whole.Unknown) × (w ≡ v)
ReadsBehind parser has_room inner (firsts.Source source) v l w =
    (at : ℕ × ℕ) × (l ≡ whole.SrcPos source at.0 at.1) × ReadsPlace v.1 at w.1 × (w.0 ≡ v.0)
ReadsBehind parser has_room inner firsts.Fused v l w = ReadsFused parser has_room inner v l w
ReadsBehind parser has_room inner firsts.Named v l w = ReadsNamed inner v l w
ReadsBehind parser has_room inner firsts.CallSite v l w = ReadsCallSite inner v l w

abbrev pub RefusesBehind : {F S A : Type 0} → Parser F S A → Bool → Reader F S A → Refuser F S → First → At F S → ParseFault → Type 0
RefusesBehind parser has_room inner refuses firsts.Unknown v fault = ⊥
RefusesBehind parser has_room inner refuses (firsts.Source source) v fault = RefusesPlace v.1 fault
RefusesBehind parser has_room inner refuses firsts.Fused v fault = RefusesFused parser has_room inner refuses v fault
RefusesBehind parser has_room inner refuses firsts.Named v fault = RefusesNamed inner refuses v fault
RefusesBehind parser has_room inner refuses firsts.CallSite v fault = RefusesCallSite inner refuses v fault

-- ---- locations

-- whether something may be in a location in which so many may be in one another
abbrev pub has_room : ℕ → Bool
has_room zero = false
has_room (suc depth) = true

-- A location was read: its first token, which is here, and what is behind that. So many locations, and metadata in them, may be in one another.
unfoldable pub ReadsLocation : {F S A : Type 0} → Parser F S A → ℕ → At F S → Location A → At F S → Type 0
ReadsLocation parser zero v l w = ⊥
ReadsLocation {F} {S} parser (suc depth) v l w =
    (first : First) × (behind : StateStream S) × ReadsFirst v.1 first behind
    × ReadsBehind parser (has_room depth) (ReadsLocation parser depth) first (v.0, behind) l w

-- a fault behind the first token, as it is told: something was read before it
abbrev pub as_consumed : ParseFault → ParseFault
as_consumed fault = record fault { consumed = true }

-- Why no location was read: no first token is here; one is, and there is no room for a location; one is, and what has to be behind it isn't.
unfoldable pub RefusesLocation : {F S A : Type 0} → Parser F S A → ℕ → At F S → ParseFault → Type 0
RefusesLocation {S = S} parser zero v fault =
    RefusesFirst v.1 fault
    ⊎ ((first : First) × (behind : StateStream S) × ReadsFirst v.1 first behind × IsFaultAt v.1.position TooDeep fault)
RefusesLocation {S = S} parser (suc depth) v fault =
    RefusesFirst v.1 fault
    ⊎ ((first : First) × (behind : StateStream S) × ReadsFirst v.1 first behind × (inner : ParseFault) × (fault ≡ as_consumed inner)
    × RefusesBehind parser (has_room depth) (ReadsLocation parser depth) (RefusesLocation parser depth) first (v.0, behind) inner)
