-- Edges that stay in their region, one by one.
use Rattle.std.specs.Prelude.{◌≡◌, ℕ, ◌+◌, Bool, true, Some, None, slice_get}
use Rattle.ir_program.specs.Program.{Program, OperationView, operation_at}
use Rattle.ir_program.specs.Lists.{StandsInBlock, StandsInRegion, operations_in}
use Rattle.ir_program.specs.Rows.{successors_at}
use Rattle.ir_program.specs.declared.handles.Ptr.{Ptr}
use Rattle.ir_program.specs.declared.handles.Operation.{Operation}
use Rattle.ir_program.specs.declared.handles.Region.{Region}
use Rattle.ir_program.specs.declared.handles.BasicBlock.{BasicBlock}
use Rattle.ir_program.specs.declared.handles.IRNode.{IRNode}
use Rattle.ir_program.specs.declared.handles.IRNode.TheVariants.{Operation as OperationNode, Region as RegionNode, BasicBlock as BlockNode}

module _ {O B : Type 0} where
  -- both blocks are in one region
  pub record AreSiblings (c : Program O B) (b s : Ptr BasicBlock) : Type 0 where
    pub region : Ptr Region
    pub first : StandsInRegion c b region
    pub second : StandsInRegion c s region

  -- an edge from the operation to the block stays in its region: the operation is the terminator at the end of a block of the region of that block
  pub record IsLocalEdge (is_terminator : O → Bool) (c : Program O B) (p : Ptr Operation) (s : Ptr BasicBlock) : Type 0 where
    pub block : Ptr BasicBlock
    pub in_block : StandsInBlock c p block
    pub last : slice_get (operations_in c block) (in_block.index + 1) ≡ None
    pub view : OperationView O
    pub there : operation_at c p ≡ Some view
    pub terminator : is_terminator view.payload ≡ true
    pub siblings : AreSiblings c block s

  -- all edges from the operation, or all edges to the block, stay in their region
  abbrev pub HasLocalEdgesAt : (O → Bool) → Program O B → IRNode → Type 0
  HasLocalEdgesAt is_terminator c (OperationNode p) = (s : Ptr BasicBlock) (k : ℕ) → slice_get (successors_at c p) k ≡ Some s → IsLocalEdge is_terminator c p s
  HasLocalEdgesAt is_terminator c (BlockNode s) = (p : Ptr Operation) (k : ℕ) → slice_get (successors_at c p) k ≡ Some s → IsLocalEdge is_terminator c p s
  HasLocalEdgesAt is_terminator c (RegionNode r) = Unit {0}
