-- Lists of passes.
use Rattle.std.specs.Prelude.{◌≡◌, ◌⊎◌, ◌≤◌, ℕ, List, [], ◌∷◌, length, Some, None, Bool, true, false, Option}
use Rattle.kit_behaviour.specs.Machine.{Fun, FunctionsByPath, arguments_in, size}
use Rattle.kit_behaviour.specs.Scopes.{In}
use Rattle.kit_behaviour.specs.Rules.{Rules, BlocksBelow}
use Rattle.kit_behaviour.specs.ConstantPropagation.{all_wanted, used_wanted, IsSccpOfFunctions}
use Rattle.kit_behaviour.specs.DeadValues.{IsDceOfFunctions, NoneDead}
use Rattle.kit_behaviour.specs.SimplifiedBlocks.{IsSimplifyOfFunctions, IsSimplifiedFunction}
use Rattle.kit_behaviour.specs.KnownOperands.{KnownArePropagated}
use Rattle.kit_behaviour.specs.Places.{Place}

-- the three passes; constant propagation also with constants for used values alone
pub data Pass : Type 0 where
  SccpPass LeanSccpPass DcePass SimplifyPass : Pass

-- q is what the pass makes of p
abbrev pub IsPass : Pass → FunctionsByPath Place → FunctionsByPath Place → Type 0
IsPass SccpPass p q = IsSccpOfFunctions all_wanted p q
IsPass LeanSccpPass p q = IsSccpOfFunctions used_wanted p q
IsPass DcePass p q = IsDceOfFunctions p q
IsPass SimplifyPass p q = IsSimplifyOfFunctions p q

-- r is what the passes make of p one after another, in the order of the list; a pass may come any number of times
abbrev pub IsAfter : List Pass → FunctionsByPath Place → FunctionsByPath Place → Type 0
IsAfter [] p r = p ≡ r
IsAfter (x ∷ xs) p r = (q : FunctionsByPath Place) × IsPass x p q × IsAfter xs q r

-- a program that keeps the rules, and where one number bounds the blocks of each function and the arguments and
-- operations of each block
pub record Fit (p : FunctionsByPath Place) : Type 0 where
  pub rules : (path : List ℕ) → Rules (p path)
  pub most : ℕ
  pub below : BlocksBelow most p
  pub args : (path : List ℕ) (b : ℕ) → length (arguments_in (p path) b) ≤ most
  pub few : (path : List ℕ) → size (p path) ≤ most

-- a program of finitely many functions: each path leads to none or to one of these
pub record IsFinite (p : FunctionsByPath Place) : Type 0 where
  pub functions : List (Fun Place)
  pub all : (path : List ℕ) → (p path ≡ None) ⊎ ((f : Fun Place) × In f functions × (p path ≡ Some f))

-- what a pass leaves
abbrev pub GoalOf : Pass → FunctionsByPath Place → Type 0
GoalOf SccpPass r = (path : List ℕ) → KnownArePropagated (r path)
GoalOf LeanSccpPass r = (path : List ℕ) → KnownArePropagated (r path)
GoalOf DcePass r = (path : List ℕ) → NoneDead (r path)
GoalOf SimplifyPass r = (path : List ℕ) → IsSimplifiedFunction (r path)

-- what a list of passes leaves of p: what its last pass does; the empty list leaves the program as it is
abbrev pub Goal : List Pass → FunctionsByPath Place → FunctionsByPath Place → Type 0
Goal [] p r = p ≡ r
Goal (x ∷ []) p r = GoalOf x r
Goal (x ∷ y ∷ xs) p r = Goal (y ∷ xs) p r

-- there is a function
abbrev pub is_there : Option (Fun Place) → Bool
is_there None = false
is_there (Some f) = true

-- the two have functions at the same paths, and these have as many arguments of their entry blocks
pub record SameFaces (p q : FunctionsByPath Place) : Type 0 where
  pub there : (path : List ℕ) → is_there (q path) ≡ is_there (p path)
  pub entry : (path : List ℕ) → length (arguments_in (q path) 0) ≡ length (arguments_in (p path) 0)
