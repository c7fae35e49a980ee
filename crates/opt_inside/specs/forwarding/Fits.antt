-- Edges that forward as many operands as the block that they lead to has arguments, one by one.
use Rattle.std.specs.Prelude.{◌≡◌, ℕ, true, length, Some, slice_get}
use Rattle.ir_program.specs.Program.{Program, OperationView, operation_at, arguments_at}
use Rattle.ir_program.specs.declared.handles.Ptr.{Ptr}
use Rattle.ir_program.specs.declared.handles.Operation.{Operation}
use Rattle.ir_program.specs.declared.handles.BasicBlock.{BasicBlock}
use Rattle.ir_program.specs.declared.handles.IRNode.{IRNode}
use Rattle.ir_program.specs.declared.handles.IRNode.TheVariants.{Operation as OperationNode, Region as RegionNode, BasicBlock as BlockNode}
use Rattle.ir_trees.specs.Stands.{in_program}
use Rattle.opt_trees.specs.Dialect.{Dialect}

module _ {O B A : Type 0} (d : Dialect (in_program O B) A) (c : Program O B) where
  -- along the edge at this index, if there is one, as many operands are forwarded as the block there has arguments
  abbrev pub FitsEdge : Ptr Operation → ℕ → Type 0
  FitsEdge p i = (v : OperationView O) (b : Ptr BasicBlock) → operation_at c p ≡ Some v → slice_get v.successors i ≡ Some b → length (d.forwards v.payload (length v.operands) i) ≡ length (arguments_at c b)

  -- so along each edge of the operation
  abbrev pub FitsEdges : Ptr Operation → Type 0
  FitsEdges p = (i : ℕ) → FitsEdge p i

  -- so along each edge of a branch
  abbrev pub FitsEdgesAt : IRNode → Type 0
  FitsEdgesAt (OperationNode p) = (v : OperationView O) → operation_at c p ≡ Some v → d.is_branch v.payload ≡ true → FitsEdges p
  FitsEdgesAt (BlockNode b) = Unit {0}
  FitsEdgesAt (RegionNode r) = Unit {0}
