-- Constant propagation of a program.
use Rattle.std.specs.Prelude.{◌≡◌, ◌↔◌, ◌⊎◌, ℕ, ◌+◌, true, List, Option, Some, None, IsSome, length}
use Rattle.ir_program.specs.Program.{Program}
use Rattle.ir_program.specs.declared.handles.Ptr.{Ptr}
use Rattle.ir_program.specs.declared.handles.Operation.{Operation}
use Rattle.ir_program.specs.declared.handles.Value.{Value}
use Rattle.ir_trees.specs.Stands.{by_handle, in_program, ProgramTree}
use Rattle.opt_dialect.specs.declared.status.IRStatus.{IRStatus}
use Rattle.opt_dialect.specs.declared.status.IRStatus.TheVariants.{Unchanged}
use Rattle.opt_dialect.specs.declared.status.OptError.{OptError}
use Rattle.opt_dialect.specs.declared.status.OptError.TheVariants.{UndeterminedOperand}
use Rattle.opt_inside.specs.Around.{IsTakenOutside}
use Rattle.opt_inside.specs.Occurring.{IsDefinedBelow, OfItsTree}
use Rattle.opt_trees.specs.Dce.{TreeSurroundings}
use Rattle.opt_trees.specs.Dialect.{Dialect}
use Rattle.opt_trees.specs.Facts.{Facts, IsMostPrecise, IsLacking}
use Rattle.opt_trees.specs.Occurrences.{Has}
use Rattle.opt_trees.specs.Sccp.{Gets, AreMadeConstants}
use Rattle.opt_sccp.specs.declared.putting.Made.{Made}
use Rattle.opt_sccp.specs.Made.{made_of, IsPutList, IsShortage}
use Rattle.opt_sccp.specs.Puts.{PutsConstants}

-- the values that are named from outside the root are those that an operation outside it takes
abbrev pub PinsTaken : {O B A : Type 0} → Program O B → Ptr Operation → TreeSurroundings by_handle A → Type 0
PinsTaken c op w = (v : Value) → (w.is_pinned v ≡ true) ↔ IsTakenOutside c op v

-- by its most precise facts no operand lacks in the tree, and these values get constants: of those that have a use below
-- the root, at it, or outside it
pub record IsDecidedIn {O B A : Type 0} (d : Dialect (in_program O B) A) (c : Program O B) (op : Ptr Operation) (made : Value → Option A) (t : ProgramTree O B) : Type 0 where
  pub around : TreeSurroundings by_handle A
  pub pins : PinsTaken c op around
  pub facts : Facts by_handle A
  pub best : IsMostPrecise d t facts
  pub complete : IsLacking d t facts → ⊥
  pub is_made : AreMadeConstants d around t facts made

-- by its most precise facts an operand lacks in the tree
pub record LacksIn {O B A : Type 0} (d : Dialect (in_program O B) A) (t : ProgramTree O B) : Type 0 where
  pub facts : Facts by_handle A
  pub best : IsMostPrecise d t facts
  pub lacks : IsLacking d t facts

-- the list says which values below the root get constants, and which; they can be put in
pub record IsDecided {O B A : Type 0} (d : Dialect (in_program O B) A) (c : Program O B) (op : Ptr Operation) (made : List (Made A)) : Type 0 where
  pub list : IsPutList d c op made
  -- each value comes with one constant
  pub one : (m : Made A) → Has m made → made_of made m.value ≡ Some m.constant
  pub in_tree : OfItsTree c op (IsDecidedIn d c op (made_of made))

-- propagation moves the counter of values to n: by one for each value that gets a constant
pub record MovesCounterTo {O B A : Type 0} (d : Dialect (in_program O B) A) (c : Program O B) (op : Ptr Operation) (n : ℕ) : Type 0 where
  pub made : List (Made A)
  pub decided : IsDecided d c op made
  pub sum : n ≡ c.counter + length made

-- the values that get constants are found out, these are put in, and the answer says whether there are any
pub record Propagates {O B A : Type 0} (d : Dialect (in_program O B) A) (old new : Program O B) (op : Ptr Operation) (answer : IRStatus) (t : ProgramTree O B) : Type 0 where
  pub made : Value → Option A
  pub decided : IsDecidedIn d old op made t
  pub puts : PutsConstants d old new op made t
  pub answers : (answer ≡ Unchanged) ↔ ((v : Value) → made v ≡ None)

-- some constants are put in, each for a value that gets it
pub record PropagatesPart {O B A : Type 0} (d : Dialect (in_program O B) A) (old new : Program O B) (op : Ptr Operation) (t : ProgramTree O B) : Type 0 where
  pub made : Value → Option A
  -- each value that gets a constant is defined below the operation
  pub below : (v : Value) (a : A) → made v ≡ Some a → IsDefinedBelow old op v
  pub gets : (w : TreeSurroundings by_handle A) → PinsTaken old op w → (k : Facts by_handle A) → IsMostPrecise d t k
      → (v : Value) (a : A) → made v ≡ Some a → Gets d w t k v a
  -- an operation of the dialect makes each constant
  pub made_by : (v : Value) (a : A) → made v ≡ Some a → IsSome (d.constant a)
  pub puts : PutsConstants d old new op made t

-- something can't grow, or an operand lacks
abbrev pub IsSccpRefusal : OptError → Type 0
IsSccpRefusal e = IsShortage e ⊎ (e ≡ UndeterminedOperand)

-- so in the tree of the root
abbrev pub IsPropagated : {O B A : Type 0} → Dialect (in_program O B) A
    → Program O B → Program O B → Ptr Operation → IRStatus → Type 0
IsPropagated d old new op answer = OfItsTree old op (Propagates d old new op answer)

abbrev pub IsPartlyPropagated : {O B A : Type 0} → Dialect (in_program O B) A
    → Program O B → Program O B → Ptr Operation → Type 0
IsPartlyPropagated d old new op = OfItsTree old op (PropagatesPart d old new op)
