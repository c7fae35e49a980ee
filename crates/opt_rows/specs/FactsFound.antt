-- What has been found so far, and how it is lowered.
use Rattle.std.specs.Prelude.{◌≡◌, ◌⊎◌, ℕ, ◌+◌, ◌<◌, ◌≤◌, true, not, List, [], ◌∷◌, ◌++◌, length, count_by, Contains}
use Rattle.opt_rows.specs.declared.known.Known.TheVariants.{Undetermined}
use Rattle.opt_rows.specs.declared.facts_problem.FactsProblem.{FactsProblem}
use Rattle.opt_rows.specs.declared.facts_found.Found.{Found}
use Rattle.opt_rows.specs.Known.{MorePrecise}
use Rattle.opt_rows.specs.KnownFalls.{heights}
use Rattle.opt_rows.specs.Facts.{NumberedFacts, as_facts, RunsWithAny}

abbrev pub facts_of : {A : Type 0} → Found A → NumberedFacts A
facts_of s = as_facts s.runs.items s.known.items

-- at most how often something can still be taken from the lists
abbrev pub left : {A : Type 0} → Found A → ℕ
left s = (count_by not s.runs.items + length s.blocks.items) + (heights s.known.items + length s.values.items)

-- the facts fell, and what fell waits; all facts that meet the demand and that the old ones are more precise than, the new ones are more precise than
pub record Falls {A : Type 0} (demand : NumberedFacts A → Type 0) (old new : Found A) : Type 0 where
  pub blocks_len : length new.runs.items ≡ length old.runs.items
  pub values_len : length new.known.items ≡ length old.known.items
  pub falls : MorePrecise (facts_of old) (facts_of new)
  pub value_waits : (v : ℕ) → ((facts_of new).of v ≡ (facts_of old).of v) ⊎ Contains new.values.items v
  pub block_waits : (b : ℕ) → (facts_of new).runs b ≡ true → ((facts_of old).runs b ≡ true) ⊎ Contains new.blocks.items b
  pub keeps_values : (v : ℕ) → Contains old.values.items v → Contains new.values.items v
  pub keeps_blocks : (b : ℕ) → Contains old.blocks.items b → Contains new.blocks.items b
  pub work : left new ≤ left old
  pub best : (l : NumberedFacts A) → demand l → MorePrecise (facts_of old) l → MorePrecise (facts_of new) l

-- the facts fell no further than the demand asks, and the new ones meet it
pub record Meets {A : Type 0} (demand : NumberedFacts A → Type 0) (old new : Found A) : Type 0 where
  pub steps : Falls demand old new
  pub holds : demand (facts_of new)

-- each of the blocks runs, with any arguments
abbrev pub EntersAll : {A : Type 0} → FactsProblem → List ℕ → NumberedFacts A → Type 0
EntersAll p blocks k = (b : ℕ) → Contains blocks b → RunsWithAny p k b

-- nothing is found
pub record IsNothing {A : Type 0} (s : Found A) (blocks values : ℕ) : Type 0 where
  pub blocks_len : length s.runs.items ≡ blocks
  pub values_len : length s.known.items ≡ values
  pub none : (b : ℕ) → (facts_of s).runs b ≡ true → ⊥
  pub undetermined : (v : ℕ) → (facts_of s).of v ≡ Undetermined

-- a block is taken from its list
pub record TakesBlock {A : Type 0} (old new : Found A) (b : ℕ) : Type 0 where
  pub runs : new.runs ≡ old.runs
  pub known : new.known ≡ old.known
  pub values : new.values ≡ old.values
  pub rest : old.blocks.items ≡ new.blocks.items ++ b ∷ []
  pub running : (facts_of old).runs b ≡ true
  pub work : left new < left old

-- a value is taken from its list
pub record TakesValue {A : Type 0} (old new : Found A) (v : ℕ) : Type 0 where
  pub runs : new.runs ≡ old.runs
  pub known : new.known ≡ old.known
  pub blocks : new.blocks ≡ old.blocks
  pub rest : old.values.items ≡ new.values.items ++ v ∷ []
  pub in_range : v < length old.known.items
  pub work : left new < left old

-- no block waits
pub record HasNoBlock {A : Type 0} (old new : Found A) : Type 0 where
  pub runs : new.runs ≡ old.runs
  pub known : new.known ≡ old.known
  pub values : new.values ≡ old.values
  pub was : old.blocks.items ≡ []
  pub is : new.blocks.items ≡ []

-- no value waits
pub record HasNoValue {A : Type 0} (old new : Found A) : Type 0 where
  pub runs : new.runs ≡ old.runs
  pub known : new.known ≡ old.known
  pub blocks : new.blocks ≡ old.blocks
  pub was : old.values.items ≡ []
  pub is : new.values.items ≡ []
