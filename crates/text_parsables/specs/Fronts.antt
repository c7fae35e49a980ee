-- What parsing a value answers, by what stands at the front of a text.
use Rattle.std.specs.Prelude.{ℕ, ◌≡◌, List, [], ◌∷◌, ◌++◌, Bool, true, false, Result, Ok, Err, MatchResult}
use Rattle.text_streams.specs.declared.stream.StateStream.{StateStream}
use Rattle.text_streams.specs.declared.faults.ParseFault.{ParseFault}
use Rattle.text_streams.specs.declared.faults.TextError.{TextError}
use Rattle.text_streams.specs.declared.position.Position.{Position}
use Rattle.text_streams.specs.Positions.{left, place, behind_all, LiesBehind}

-- What stands at the front of a text: characters with the value that they stand for; or the characters before a fault, and its cause.
abbrev pub Front : Type 0 → Type 0
Front T = Result (List ℕ × T) (List ℕ × TextError)

-- What may stand at the front of a text beside a state, and which state parsing it leaves.
abbrev pub Fronts : (S T : Type 0) → Type 1
Fronts S T = List ℕ → S → Front T → S → Type 0

abbrev pub is_some_text : List ℕ → Bool
is_some_text [] = false
is_some_text (c ∷ cs) = true

-- A fault lies behind these characters, which are left at a place, and says whether there are any.
pub record FaultLiesBehind (from : Position) (before : List ℕ) (fault : ParseFault) : Type 0 where
  pub rest : List ℕ
  pub there : left from ≡ before ++ rest
  pub at : (fault.line, fault.column) ≡ behind_all (place from) before
  pub consumed : fault.consumed ≡ is_some_text before

-- A value was read: the stream is behind the characters that stand for it.
pub record ReadsValue {S T : Type 0} (Stands : Fronts S T) (old new : StateStream S) (value : T) : Type 0 where
  pub characters : List ℕ
  pub stands : Stands (left old.position) old.state (Ok (characters, value)) new.state
  pub behind : LiesBehind old.position new.position characters

-- No value was read: the stream stays where it was.
pub record RefusesValue {S T : Type 0} (Stands : Fronts S T) (old new : StateStream S) (fault : ParseFault) : Type 0 where
  pub before : List ℕ
  pub why : Stands (left old.position) old.state (Err (before, fault.cause)) new.state
  pub met : FaultLiesBehind old.position before fault
  pub stays : new.position ≡ old.position

-- what parsing answers, and what it leaves
abbrev pub Parses : {S T : Type 0} → Fronts S T → StateStream S → StateStream S → Result T ParseFault → Type 0
Parses Stands old new result = MatchResult result (ReadsValue Stands old new) (RefusesValue Stands old new)
