-- Whole texts, with white space around a value.
use Rattle.std.specs.Prelude.{ℕ, ◌≡◌, ◌⊎◌, List, [], Result, Ok, Err, MatchResult, true}
use Rattle.std.specs.Char.{is_whitespace}
use Rattle.std.specs.List.{take_while}
use Rattle.text_streams.specs.declared.position.Position.{Position}
use Rattle.text_streams.specs.declared.faults.ParseFault.{ParseFault}
use Rattle.text_streams.specs.declared.faults.TextError.TheVariants.{Syntax}
use Rattle.text_streams.specs.Positions.{left, place, LiesBehind}
use Rattle.text_parsables.specs.Fronts.{Fronts, is_some_text, FaultLiesBehind}

-- one place lies behind the white space that is left at another
abbrev pub IsBehindSpaces : Position → Position → Type 0
IsBehindSpaces from to = LiesBehind from to (take_while is_whitespace (left from))

-- Where a value is due in a text: behind the white space at its start.
pub record IsDue (text : List ℕ) (due : Position) : Type 0 where
  pub start : Position
  pub whole : left start ≡ text
  pub first : place start ≡ (1, 1)
  pub spaces : IsBehindSpaces start due

-- A value stands in a text behind white space, and this place is behind it and the white space that follows.
pub record StandsUpTo {S T : Type 0} (Stands : Fronts S T) (text : List ℕ) (state : S) (value : T) (last : Position) : Type 0 where
  pub due : Position
  pub starts : IsDue text due
  pub characters : List ℕ
  pub beside : S
  pub stands : Stands (left due) state (Ok (characters, value)) beside
  pub end : Position
  pub behind : LiesBehind due end characters
  pub spaces : IsBehindSpaces end last

-- A text is a value, with nothing but white space around it.
pub record IsWhole {S T : Type 0} (Stands : Fronts S T) (text : List ℕ) (state : S) (value : T) : Type 0 where
  pub last : Position
  pub there : StandsUpTo Stands text state value last
  pub ends : left last ≡ []

-- No value stands in a text: why not, and where.
pub record HasNoValue {S T : Type 0} (Stands : Fronts S T) (text : List ℕ) (state : S) (fault : ParseFault) : Type 0 where
  pub due : Position
  pub starts : IsDue text due
  pub before : List ℕ
  pub beside : S
  pub why : Stands (left due) state (Err (before, fault.cause)) beside
  pub met : FaultLiesBehind due before fault

-- More than white space follows a value: that is a syntax fault at the first character of it.
pub record GoesOnBehind {S T : Type 0} (Stands : Fronts S T) (text : List ℕ) (state : S) (fault : ParseFault) : Type 0 where
  pub value : T
  pub last : Position
  pub there : StandsUpTo Stands text state value last
  pub more : is_some_text (left last) ≡ true
  pub cause : fault.cause ≡ Syntax
  pub here : place last ≡ (fault.line, fault.column)
  pub consumed : fault.consumed ≡ true

-- what parsing a whole text answers
abbrev pub ParsesWhole : {S T : Type 0} → Fronts S T → List ℕ → S → Result T ParseFault → Type 0
ParsesWhole Stands text state result = MatchResult result
    (IsWhole Stands text state)
    (λ fault. HasNoValue Stands text state fault ⊎ GoesOnBehind Stands text state fault)
