-- Edges that stay in their region.
use Rattle.std.specs.Prelude.{◌≡◌, ℕ, ◌+◌, Bool, true, length, Some, slice_get}
use Rattle.ir_program.specs.Program.{Program, OperationView, operation_at, arguments_at}
use Rattle.ir_program.specs.Lists.{StandsInBlock, StandsInRegion, operations_in}
use Rattle.ir_program.specs.Rows.{successors_at}
use Rattle.ir_program.specs.declared.handles.Ptr.{Ptr}
use Rattle.ir_program.specs.declared.handles.Operation.{Operation}
use Rattle.ir_program.specs.declared.handles.Region.{Region}
use Rattle.ir_program.specs.declared.handles.BasicBlock.{BasicBlock}
use Rattle.ir_trees.specs.Searched.{Lists}
use Rattle.ir_trees.specs.Stands.{in_program}
use Rattle.opt_trees.specs.Dialect.{Dialect}
use Rattle.opt_inside.specs.Occurring.{IsBelowRoot, IsBlockBelow}

-- below the root only the terminator at a block's end names successors, these are blocks of its region, and nothing outside names a block there
pub record HasLocalEdgesBelow {O B : Type 0} (is_terminator : O → Bool) (c : Program O B) (op : Ptr Operation) : Type 0 where
  pub leaving : (p : Ptr Operation) (s b : Ptr BasicBlock) (r : Ptr Region) → IsBelowRoot c op p → Lists (successors_at c p) s → StandsInBlock c p b → StandsInRegion c b r → StandsInRegion c s r
  pub entering : (p : Ptr Operation) (s : Ptr BasicBlock) → Lists (successors_at c p) s → IsBlockBelow c op s → IsBelowRoot c op p
  pub last : (p : Ptr Operation) (s b : Ptr BasicBlock) (k : ℕ) → IsBelowRoot c op p → Lists (successors_at c p) s → slice_get (operations_in c b) k ≡ Some p → k + 1 ≡ length (operations_in c b)
  pub terminators : (p : Ptr Operation) (s : Ptr BasicBlock) (v : OperationView O) → IsBelowRoot c op p → Lists (successors_at c p) s → operation_at c p ≡ Some v → is_terminator v.payload ≡ true

-- each edge of a branch below the root forwards as many operands as the block that it leads to has arguments
abbrev pub FitsEdgesBelow : {O B A : Type 0} → Dialect (in_program O B) A → Program O B → Ptr Operation → Type 0
FitsEdgesBelow {O} d c op = (p : Ptr Operation) (v : OperationView O) (i : ℕ) (b : Ptr BasicBlock) → IsBelowRoot c op p → operation_at c p ≡ Some v → d.is_branch v.payload ≡ true → slice_get v.successors i ≡ Some b → length (d.forwards v.payload (length v.operands) i) ≡ length (arguments_at c b)
