-- What is dead, as the least set, over numbered operations and arguments.
-- Source: Cytron and others, Efficiently computing static single assignment form, 1991, section on dead code; here as the least set, nested operations and block arguments too.
use Rattle.std.specs.Prelude.{◌≡◌, ◌⊎◌, ◌<◌, ℕ, true, length, Some, slice_get, Contains}
use Rattle.opt_rows.specs.declared.dead_problem.Definer.{Definer}
use Rattle.opt_rows.specs.declared.dead_problem.Definer.TheVariants.{Result, Argument as ByArgument, Outside}
use Rattle.opt_rows.specs.declared.dead_problem.Operand.{Operand}
use Rattle.opt_rows.specs.DeadCandidates.{Candidate}
use Rattle.opt_rows.specs.declared.dead_problem.Argument.{Argument}
use Rattle.opt_rows.specs.declared.dead_problem.DeadProblem.{DeadProblem}

-- an operation, or an argument
pub data NumberedItem : Type 0 where
  Whole : (operation : ℕ) → NumberedItem
  Slot : (argument : ℕ) → NumberedItem

module _ (p : DeadProblem) where
  -- the operation i is a, or is in it, however far down
  pub data IsInOperation (a : ℕ) : ℕ → Type 0 where
    itself : IsInOperation a a
    further : (i j : ℕ) (c : Candidate) → slice_get p.operations i ≡ Some c → c.around ≡ Some j → IsInOperation a j → IsInOperation a i

  -- the operation is in a, and isn't a
  pub record IsBelow (a i : ℕ) : Type 0 where
    pub candidate : Candidate
    pub there : slice_get p.operations i ≡ Some candidate
    pub parent : ℕ
    pub around : candidate.around ≡ Some parent
    pub inside : IsInOperation a parent

  -- the argument is of a block in a
  pub record IsArgumentIn (a v : ℕ) : Type 0 where
    pub argument : Argument
    pub there : slice_get p.arguments.items v ≡ Some argument
    pub parent : ℕ
    pub around : argument.around ≡ Some parent
    pub inside : IsInOperation a parent

  -- what defines the value is inside a, and isn't a itself
  abbrev pub IsInner : ℕ → Definer → Type 0
  IsInner a (Result b) = IsBelow a b
  IsInner a (ByArgument v) = IsArgumentIn a v
  IsInner a Outside = ⊥

  -- the item makes the value: it is a result of the operation or is defined inside it; it is the argument
  abbrev pub ItemMakes : NumberedItem → Definer → Type 0
  ItemMakes (Whole a) d = (d ≡ Result a) ⊎ IsInner a d
  ItemMakes (Slot v) d = d ≡ ByArgument v

  -- nothing but uses keeps it
  abbrev pub ItemMayGo : NumberedItem → Type 0
  ItemMayGo (Whole a) = (c : Candidate) × (slice_get p.operations a ≡ Some c) × (c.may_go ≡ true)
  ItemMayGo (Slot v) = (c : Argument) × (slice_get p.arguments.items v ≡ Some c) × (c.may_go ≡ true)

  -- what is outside, or the root itself, uses it
  abbrev pub IsKeptItem : NumberedItem → Type 0
  IsKeptItem x = (d : Definer) × Contains p.kept.items d × ItemMakes x d

  -- a use by the operation i of the value is one of the item: of a result, or, from outside, of a value inside; of the argument
  abbrev pub CountsForItem : NumberedItem → Definer → ℕ → Type 0
  CountsForItem (Whole a) d i = (d ≡ Result a) ⊎ (IsInner a d × (IsBelow a i → ⊥))
  CountsForItem (Slot v) d i = d ≡ ByArgument v

  -- the operation i has this operand
  pub record HasOperand (i : ℕ) (o : Operand) : Type 0 where
    pub candidate : Candidate
    pub there : slice_get p.operations i ≡ Some candidate
    pub operand : Contains candidate.operands o

  mutual
    -- the least set: what may go, isn't kept, and is used by the dead alone
    pub data IsDeadItem : NumberedItem → Type 0 where
      dies : (x : NumberedItem) → ItemMayGo x → (IsKeptItem x → ⊥) → ((i : ℕ) (o : Operand) → HasOperand i o → CountsForItem x o.definer i → IsExcusedOperand i o) → IsDeadItem x

    -- the operand keeps nothing: its operation, or one that this is in, is dead, or it is forwarded to a dead argument
    pub data IsExcusedOperand : ℕ → Operand → Type 0 where
      by_operation : (i : ℕ) (o : Operand) (a : ℕ) → IsInOperation a i → IsDeadItem (Whole a) → IsExcusedOperand i o
      by_argument : (i : ℕ) (o : Operand) (v : ℕ) → o.argument ≡ Some v → IsDeadItem (Slot v) → IsExcusedOperand i o

  -- the numbers of a problem are in range, and operations come behind those that they are in
  pub record IsDeadProblem : Type 0 where
    pub around : (i j : ℕ) (c : Candidate) → slice_get p.operations i ≡ Some c → c.around ≡ Some j → j < i
    pub argument_around : (v j : ℕ) (c : Argument) → slice_get p.arguments.items v ≡ Some c → c.around ≡ Some j → j < length p.operations
    pub results : (i a : ℕ) (o : Operand) → HasOperand i o → o.definer ≡ Result a → a < length p.operations
    pub arguments : (i v : ℕ) (o : Operand) → HasOperand i o → o.definer ≡ ByArgument v → v < length p.arguments.items
    pub forwarded : (i v : ℕ) (o : Operand) → HasOperand i o → o.argument ≡ Some v → v < length p.arguments.items
    pub kept_results : (a : ℕ) → Contains p.kept.items (Result a) → a < length p.operations
    pub kept_arguments : (v : ℕ) → Contains p.kept.items (ByArgument v) → v < length p.arguments.items
