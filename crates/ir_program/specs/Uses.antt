-- What contracts say of where values and blocks are used.
use Rattle.std.specs.Prelude.{◌≡◌, ℕ, List, length, Some, slice_get}
use Rattle.ir_program.specs.Program.{Program, OperationView, operation_at}
use Rattle.ir_program.specs.Rows.{operands_at, successors_at}
use Rattle.ir_program.specs.declared.handles.Ptr.{Ptr}
use Rattle.ir_program.specs.declared.handles.Operation.{Operation}
use Rattle.ir_program.specs.declared.handles.BasicBlock.{BasicBlock}
use Rattle.ir_program.specs.declared.handles.Value.{Value}
use Rattle.ir_program.specs.declared.handles.Use.{Use}

-- in a row of each operation
module _ {K : Type 0} (rows : Ptr Operation → List K) where
  -- the operation has what is used at this index of its row
  abbrev pub IsUseIn : Use K → Type 0
  IsUseIn u = slice_get (rows u.user_op) u.index ≡ Some u.def

  -- the uses of x, each once, in any order
  pub record AreUsesIn (x : K) (us : List (Use K)) : Type 0 where
    pub once : (i j : ℕ) (u : Use K) → slice_get us i ≡ Some u → slice_get us j ≡ Some u → i ≡ j
    pub sound : (i : ℕ) (u : Use K) → slice_get us i ≡ Some u → IsUseIn u × (u.def ≡ x)
    pub all : (u : Use K) → IsUseIn u → u.def ≡ x → (i : ℕ) × (slice_get us i ≡ Some u)

  -- x has so many uses
  abbrev pub IsUseCountIn : K → ℕ → Type 0
  IsUseCountIn x n = (us : List (Use K)) × AreUsesIn x us × (length us ≡ n)

module _ {O B : Type 0} where
  -- some operation takes the value as an operand
  abbrev pub IsUsed : Program O B → Value → Type 0
  IsUsed c v = (p : Ptr Operation) × (o : OperationView O) × (operation_at c p ≡ Some o) × (k : ℕ) × (slice_get o.operands k ≡ Some v)

  -- the operation is there, and its operand at this index is the value
  abbrev pub IsUse : Program O B → Use Value → Type 0
  IsUse c u = IsUseIn (operands_at c) u

  -- the uses of a value, each once, in any order
  abbrev pub AreUsesOf : Program O B → Value → List (Use Value) → Type 0
  AreUsesOf c v us = AreUsesIn (operands_at c) v us

  -- so many operands are the value
  abbrev pub IsUseCount : Program O B → Value → ℕ → Type 0
  IsUseCount c v n = IsUseCountIn (operands_at c) v n

  -- the operation is there, and its successor at this index is the block
  abbrev pub IsBlockUse : Program O B → Use (Ptr BasicBlock) → Type 0
  IsBlockUse c u = IsUseIn (successors_at c) u

  -- the edges to a block, each once, in any order
  abbrev pub AreBlockUses : Program O B → Ptr BasicBlock → List (Use (Ptr BasicBlock)) → Type 0
  AreBlockUses c b us = AreUsesIn (successors_at c) b us

  -- so many successors are the block: an operation with two edges to it counts twice
  abbrev pub IsPredecessorCount : Program O B → Ptr BasicBlock → ℕ → Type 0
  IsPredecessorCount c b n = IsUseCountIn (successors_at c) b n

  -- some operation has the block as a successor
  abbrev pub HasPredecessor : Program O B → Ptr BasicBlock → Type 0
  HasPredecessor c b = (u : Use (Ptr BasicBlock)) × IsBlockUse c u × (u.def ≡ b)
