-- Lists of values and of the constants that are put in for them.
use Rattle.std.specs.Prelude.{◌≡◌, ◌⊎◌, ℕ, ◌<◌, List, [], ◌∷◌, Option, Some, None, IsSome, cond, slice_get}
use Rattle.ir_context.specs.Known.{IsKnownIn}
use Rattle.ir_program.specs.Program.{Program, value_in}
use Rattle.ir_program.specs.Definers.{values_at}
use Rattle.ir_program.specs.Replacing.{same_value}
use Rattle.ir_program.specs.declared.handles.Ptr.{Ptr}
use Rattle.ir_program.specs.declared.handles.Operation.{Operation}
use Rattle.ir_program.specs.declared.handles.Value.{Value}
use Rattle.ir_program.specs.declared.handles.DefiningEntity.{DefiningEntity}
use Rattle.ir_trees.specs.Stands.{in_program, ProgramTree, StandsFor}
use Rattle.opt_trees.specs.Dialect.{Dialect}
use Rattle.opt_trees.specs.Occurrences.{Has}
use Rattle.opt_dialect.specs.declared.status.OptError.{OptError}
use Rattle.opt_dialect.specs.declared.status.OptError.TheVariants.{Memory, CounterFull}
use Rattle.opt_inside.specs.Occurring.{IsDefinedBelow}
use Rattle.opt_sccp.specs.Puts.{PutsConstants}
use Rattle.opt_sccp.specs.declared.putting.Made.{Made}

-- the constant of a value, where the list has one
abbrev pub made_of : {A : Type 0} → List (Made A) → Value → Option A
made_of [] v = None
made_of (m ∷ ms) v = cond (same_value v m.value) (Some m.constant) (made_of ms v)

-- what can be put in below the root
pub record IsPutList {O B A : Type 0} (d : Dialect (in_program O B) A) (c : Program O B) (op : Ptr Operation) (made : List (Made A)) : Type 0 where
  -- each value is a result of an operation below the root, or an argument of a block there
  pub below : (m : Made A) → Has m made → IsDefinedBelow c op m.value
  -- those of one operation or block come in the order of its results or arguments, and so each comes once
  pub ordered : (i j : ℕ) (m n : Made A) → slice_get made i ≡ Some m → slice_get made j ≡ Some n → i < j
      → (e : DefiningEntity) (a b : ℕ) → value_in (values_at c e) a ≡ Some m.value
      → value_in (values_at c e) b ≡ Some n.value → a < b
  -- an operation of the dialect makes each constant
  pub made_by : (m : Made A) → Has m made → IsSome (d.constant m.constant)

-- the types of the constants are among so many types
abbrev pub AreTyped : {O B A : Type 0} → Dialect (in_program O B) A → ℕ → List (Made A) → Type 0
AreTyped {O} {B} {A} d count made = (m : Made A) → Has m made → IsKnownIn count (d.constant_type m.constant)

-- the constants of the list are put in, in each tree of the root
abbrev pub PutsList : {O B A : Type 0} → Dialect (in_program O B) A
    → Program O B → Program O B → Ptr Operation → List (Made A) → Type 0
PutsList {O} {B} d old new op made = (t : ProgramTree O B) → StandsFor old op t → PutsConstants d old new op (made_of made) t

-- something can't grow
abbrev pub IsShortage : OptError → Type 0
IsShortage e = (e ≡ Memory) ⊎ (e ≡ CounterFull)
