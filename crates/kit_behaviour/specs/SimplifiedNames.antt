-- The pass on control flow on a function whose values have any names: these stay as they are.
use Rattle.std.specs.Prelude.{◌≡◌, ◌↔◌, ℕ, Bool, Option}
use Rattle.kit_behaviour.specs.DecidedBranches.{decide}
use Rattle.kit_behaviour.specs.Facts.{FunctionFacts, Known, Unknown}
use Rattle.kit_behaviour.specs.Machine.{Const, Fun, left_in, arguments_in}
use Rattle.kit_behaviour.specs.Scopes.{In, all_defs}
use Rattle.kit_behaviour.specs.SimplifiedBlocks.{IsReachedSet, keep, Merges}

-- no value is an argument of two blocks, or an argument and a result
pub record DefinitionsAreApart {V : Type 0} (f : Option (Fun V)) : Type 0 where
  pub arguments : (b c : ℕ) (v : V) → In v (arguments_in f b) → In v (arguments_in f c) → b ≡ c
  pub results : (b c : ℕ) (v : V) → In v (arguments_in f b) → In v (all_defs (left_in f c 0)) → ⊥

-- v is the result of a constant n
abbrev pub IsConstantIn : {V : Type 0} → Option (Fun V) → V → ℕ → Type 0
IsConstantIn f v n = (b : ℕ) × In (Const v n) (left_in f b 0)

-- exactly the results of constants are known; of each other value anything may be
pub record AreConstants {V : Type 0} (f : Option (Fun V)) (k : FunctionFacts V) : Type 0 where
  pub known : (v : V) (n : ℕ) → (k.of v ≡ Known n) ↔ IsConstantIn f v n
  pub unknown : (v : V) → ((n : ℕ) → IsConstantIn f v n → ⊥) → k.of v ≡ Unknown

-- g is what the pass on control flow makes of f
pub record SimplifiesNamed {V : Type 0} (f g : Option (Fun V)) : Type 0 where
  pub constants : FunctionFacts V
  pub are : AreConstants f constants
  pub reach : ℕ → Bool
  pub reached : IsReachedSet (decide constants f) reach
  pub merges : Merges (keep reach (decide constants f)) g
