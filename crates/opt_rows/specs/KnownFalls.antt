-- What is known of values, lowered.
use Rattle.std.specs.Prelude.{ℕ, ◌+◌, ◌<◌, List, [], ◌∷◌, Option, Some, None}
use Rattle.opt_rows.specs.declared.known.Known.{Known}
use Rattle.opt_rows.specs.declared.known.Known.TheVariants.{Undetermined, One, Any}
use Rattle.opt_rows.specs.Known.{AtOrBelow}

-- how often it can still fall
abbrev pub height : {A : Type 0} → Known A → ℕ
height Undetermined = 2
height (One a) = 1
height Any = 0

abbrev pub heights : {A : Type 0} → List (Known A) → ℕ
heights [] = 0
heights (x ∷ xs) = height x + heights xs

-- the greatest at or below both, which is below the first
pub record FallsBelow {A : Type 0} (old fact new : Known A) : Type 0 where
  pub left : AtOrBelow new old
  pub right : AtOrBelow new fact
  pub greatest : (x : Known A) → AtOrBelow x old → AtOrBelow x fact → AtOrBelow x new
  pub less : height new < height old

-- the constant that it is, if it is one
abbrev pub constant_of : {A : Type 0} → Known A → Option A
constant_of Undetermined = None
constant_of (One a) = Some a
constant_of Any = None

abbrev pub one_if_undetermined : {A : Type 0} → Known A → ℕ
one_if_undetermined Undetermined = 1
one_if_undetermined (One a) = 0
one_if_undetermined Any = 0

-- how many are undetermined
abbrev pub undetermined : {A : Type 0} → List (Known A) → ℕ
undetermined [] = 0
undetermined (x ∷ xs) = one_if_undetermined x + undetermined xs
