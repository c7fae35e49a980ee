-- What is under the place where looking begins, and edges that stay in their region there.
use Rattle.std.specs.Prelude.{◌≡◌, ℕ, ◌+◌, Bool, true, length, Some, slice_get}
use Rattle.ir_program.specs.Lists.{StandsInBlock, StandsInRegion, StandsInOperation, StandsInside, operations_in}
use Rattle.ir_program.specs.Program.{Program, OperationView, operation_at, arguments_at}
use Rattle.ir_program.specs.Rows.{successors_at}
use Rattle.ir_program.specs.declared.handles.IRNode.{IRNode}
use Rattle.ir_program.specs.declared.handles.IRNode.TheVariants.{Operation as OperationNode, Region as RegionNode, BasicBlock as BlockNode}
use Rattle.ir_program.specs.declared.handles.Ptr.{Ptr}
use Rattle.ir_program.specs.declared.handles.Operation.{Operation}
use Rattle.ir_program.specs.declared.handles.Region.{Region}
use Rattle.ir_program.specs.declared.handles.BasicBlock.{BasicBlock}
use Rattle.ir_trees.specs.Searched.{Lists}
use Rattle.ir_trees.specs.Stands.{in_program}
use Rattle.opt_trees.specs.Dialect.{Dialect}
use Rattle.opt_inside.specs.reach.Starts.{BeginsAtRegion}
use Rattle.opt_inside.specs.declared.reach.starts.Start.{Start}

module _ {O B : Type 0} (c : Program O B) (start : Start) where
  -- it is inside a region where looking begins
  pub record IsNodeUnder (e : IRNode) : Type 0 where
    pub operation : Ptr Operation
    pub region : Ptr Region
    pub begins : BeginsAtRegion c start operation region
    pub of_operation : StandsInOperation c region operation
    pub inside : StandsInside c (RegionNode region) e

  -- so is the operation
  abbrev pub IsUnder : Ptr Operation → Type 0
  IsUnder p = IsNodeUnder (OperationNode p)

  -- so is the block
  abbrev pub IsBlockUnder : Ptr BasicBlock → Type 0
  IsBlockUnder b = IsNodeUnder (BlockNode b)

-- under the place only the terminator at a block's end names successors, these are blocks of its region, and nothing outside
-- names a block there
pub record HasLocalEdgesFrom {O B : Type 0} (is_terminator : O → Bool) (c : Program O B) (start : Start) : Type 0 where
  pub leaving : (p : Ptr Operation) (s b : Ptr BasicBlock) (r : Ptr Region) → IsUnder c start p → Lists (successors_at c p) s
      → StandsInBlock c p b → StandsInRegion c b r → StandsInRegion c s r
  pub entering : (p : Ptr Operation) (s : Ptr BasicBlock) → Lists (successors_at c p) s → IsBlockUnder c start s
      → IsUnder c start p
  pub last : (p : Ptr Operation) (s b : Ptr BasicBlock) (k : ℕ) → IsUnder c start p → Lists (successors_at c p) s
      → slice_get (operations_in c b) k ≡ Some p → k + 1 ≡ length (operations_in c b)
  pub terminators : (p : Ptr Operation) (s : Ptr BasicBlock) (v : OperationView O) → IsUnder c start p
      → Lists (successors_at c p) s → operation_at c p ≡ Some v → is_terminator v.payload ≡ true

-- each edge of a branch under the place forwards as many operands as the block that it leads to has arguments
abbrev pub FitsEdgesFrom : {O B A : Type 0} → Dialect (in_program O B) A → Program O B → Start → Type 0
FitsEdgesFrom {O} d c start = (p : Ptr Operation) (v : OperationView O) (i : ℕ) (b : Ptr BasicBlock) → IsUnder c start p
    → operation_at c p ≡ Some v → d.is_branch v.payload ≡ true → slice_get v.successors i ≡ Some b
    → length (d.forwards v.payload (length v.operands) i) ≡ length (arguments_at c b)
