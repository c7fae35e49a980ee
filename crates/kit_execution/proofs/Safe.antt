-- Functions that never bring the machine to a standstill.
use Rattle.std.proofs.Common.{◌≡◌, ℕ, suc, ◌<◌, List, length, Some, IsSome, slice_get}
use Rattle.ir_program.specs.Program.{block_at}
use Rattle.ir_program.specs.Lists.{operations_in}
use Rattle.ir_program.specs.declared.handles.Ptr.{Ptr}
use Rattle.ir_program.specs.declared.handles.Operation.{Operation}
use Rattle.ir_program.specs.declared.handles.BasicBlock.{BasicBlock}
use Rattle.ir_trees.specs.Searched.{Lists}
use Rattle.kit.specs.Context.{KitContext}
use Rattle.kit_places.specs.Store.{body_of, function_named, op_at}
use Rattle.kit_execution.proofs.Shapes.{GoesOn}

module _ (s : KitContext) (m : Ptr Operation) where
  -- some name finds the function
  abbrev pub IsCallee : Ptr Operation → Type 0
  IsCallee g = (name : List ℕ) × (function_named s.program m name ≡ Some g)

  -- it has a block, its blocks are there and aren't empty, and each operation of them goes on
  pub record IsSafe (f : Ptr Operation) : Type 0 where
    pub entry : 0 < length (body_of s.program f)
    pub live : (b : Ptr BasicBlock) → Lists (body_of s.program f) b → IsSome (block_at s.program b)
    pub filled : (b : Ptr BasicBlock) → Lists (body_of s.program f) b → 0 < length (operations_in s.program b)
    pub goes_on : (b : Ptr BasicBlock) (k : ℕ) (q : Ptr Operation) → Lists (body_of s.program f) b → slice_get (operations_in s.program b) k ≡ Some q
        → GoesOn (suc k < length (operations_in s.program b)) (Lists (body_of s.program f)) IsCallee (op_at s m q)
