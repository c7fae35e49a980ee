-- Chains of numbers, walked from their firsts on.
use Rattle.std.specs.Prelude.{◌≡◌, ◌≢◌, ℕ, ◌<◌, ◌≤◌, eqb, if◌then◌else◌, List, [], ◌∷◌, ◌++◌, length, Option, Some, None, slice_get}
use Rattle.opt_trees.specs.Occurrences.{Has}
use Rattle.opt_chains.specs.declared.chain_steps.ChainStep.{ChainStep}

-- the numbers behind a first, by the steps
abbrev pub behind : List ChainStep → ℕ → List ℕ
behind [] f = []
behind (s ∷ ss) f = if eqb s.first f then s.to ∷ behind ss f else behind ss f

-- the last of a row that begins with a number
abbrev pub end_of : ℕ → List ℕ → ℕ
end_of a [] = a
end_of a (b ∷ bs) = end_of b bs

module _ (next : List (Option ℕ)) where
  -- nothing leads to the number
  abbrev pub IsFirst : ℕ → Type 0
  IsFirst f = (a : ℕ) → slice_get next a ≡ Some (Some f) → ⊥

  -- numbers lead to numbers that lead somewhere or to an end, and different ones to different ones
  pub record AreLinks : Type 0 where
    pub within : (a b : ℕ) → slice_get next a ≡ Some (Some b) → b < length next
    pub apart : (a b c : ℕ) → slice_get next a ≡ Some (Some c) → slice_get next b ≡ Some (Some c) → a ≡ b

  -- each step goes on from the end of what the steps before it have behind its first
  pub data AreSteps : List ChainStep → Type 0 where
    no_steps : AreSteps []
    one_step : (ss : List ChainStep) (s : ChainStep) (all : List ChainStep) → AreSteps ss → IsFirst s.first → slice_get next s.before ≡ Some (Some s.to) → s.before ≡ end_of s.first (behind ss s.first) → all ≡ ss ++ s ∷ [] → AreSteps all

  -- the number comes behind the first, however far
  pub data IsBehind (f : ℕ) : ℕ → Type 0 where
    itself : IsBehind f f
    later : (a b : ℕ) → IsBehind f a → slice_get next a ≡ Some (Some b) → IsBehind f b

  -- the chain of this first is walked to its end
  pub record IsWalked (f : ℕ) (old new : List ChainStep) : Type 0 where
    pub steps : AreSteps new
    pub ends : slice_get next (end_of f (behind new f)) ≡ Some None
    pub others : (g : ℕ) → g ≢ f → behind new g ≡ behind old g

  -- the chains of all firsts are walked to their ends
  pub record AreWalked (ss : List ChainStep) : Type 0 where
    pub steps : AreSteps ss
    pub ends : (f : ℕ) → f < length next → IsFirst f → slice_get next (end_of f (behind ss f)) ≡ Some None
    pub beyond : (f : ℕ) → length next ≤ f → behind ss f ≡ []
    -- no step leads where another leads, and each number behind a first is led to
    pub once : (j k : ℕ) (s u : ChainStep) → slice_get ss j ≡ Some s → slice_get ss k ≡ Some u → s.to ≡ u.to → j ≡ k
    pub all : (f b c : ℕ) → f < length next → IsFirst f → IsBehind f b → slice_get next b ≡ Some (Some c) → Has c (behind ss f)
