-- Tables by the numbers of values.
use Rattle.std.specs.Prelude.{◌≡◌, ◌⊎◌, ◌↔◌, ℕ, List, Option, Some, None, length, slice_get}
use Rattle.ir_program.specs.declared.handles.Value.{Value}
use Rattle.ir_trees.specs.Searched.{Lists}
use Rattle.opt_chains.specs.declared.merge_values.StandIn.{StandIn}

-- the table has a value at this number
abbrev pub HasOneAt : List (Option Value) → ℕ → Type 0
HasOneAt given n = (u : Value) × (slice_get given n ≡ Some (Some u))

module _ (keys : List Value) where
  -- at the number of each value to which something is given, the table has something that is given to it
  pub record IsGivenTable (IsGiven : Value → Value → Type 0) (given : List (Option Value)) : Type 0 where
    pub len : length given ≡ length keys
    pub sound : (n : ℕ) (u : Value) → slice_get given n ≡ Some (Some u) → (v : Value) × (slice_get keys n ≡ Some v) × IsGiven v u
    pub all : (n : ℕ) (v u : Value) → slice_get keys n ≡ Some v → IsGiven v u → HasOneAt given n

  -- what is given to values was put into the table, maybe in place of what it had
  pub record Gives (IsGiven : Value → Value → Type 0) (old new : List (Option Value)) : Type 0 where
    pub len : length new ≡ length old
    pub given : (n : ℕ) (v u : Value) → slice_get keys n ≡ Some v → IsGiven v u → HasOneAt new n
    pub kept : (n : ℕ) → HasOneAt old n → HasOneAt new n
    pub cases : (n : ℕ) (u : Value) → slice_get new n ≡ Some (Some u) → (slice_get old n ≡ Some (Some u)) ⊎ ((v : Value) × (slice_get keys n ≡ Some v) × IsGiven v u)

  -- the number of the value, if there is one and it has a number
  abbrev pub IsNumberOf : Option Value → Option ℕ → Type 0
  IsNumberOf entry number = (n : ℕ) → (number ≡ Some n) ↔ ((u : Value) × (entry ≡ Some u) × (slice_get keys n ≡ Some u))

  -- the numbers of what the table has
  pub record AreNumbersOf (given : List (Option Value)) (next : List (Option ℕ)) : Type 0 where
    pub len : length next ≡ length given
    pub each : (k : ℕ) (entry : Option Value) (number : Option ℕ) → slice_get given k ≡ Some entry → slice_get next k ≡ Some number → IsNumberOf entry number

  module _ (given : List (Option Value)) where
    -- what the table has at a number, or the value with this number where it has none
    abbrev pub IsEnd : ℕ → Value → Type 0
    IsEnd n v = (slice_get given n ≡ Some (Some v)) ⊎ ((slice_get given n ≡ Some None) × (slice_get keys n ≡ Some v))

    -- the value with this number, with what is at the number that it was followed to
    pub record IsFollowed (finals : List ℕ) (n : ℕ) (s : StandIn) : Type 0 where
      pub argument : slice_get keys n ≡ Some s.argument
      pub end : ℕ
      pub followed : slice_get finals n ≡ Some end
      pub value : IsEnd end s.value

    -- so for each number at which the table has something
    pub record AreFollowed (finals : List ℕ) (ss : List StandIn) : Type 0 where
      pub sound : (s : StandIn) → Lists ss s → (n : ℕ) × HasOneAt given n × IsFollowed finals n s
      pub all : (n : ℕ) → HasOneAt given n → (s : StandIn) × Lists ss s × IsFollowed finals n s
