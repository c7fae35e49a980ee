-- What stands outside a module in its context, and what a pass on the module leaves of it.
use Rattle.std.specs.Prelude.{◌≡◌, IsSome}
use Rattle.ir_program.specs.Lists.{StandsInOperation, StandsInside}
use Rattle.ir_program.specs.Program.{Program, operation_at, block_at, region_at}
use Rattle.ir_program.specs.declared.handles.BasicBlock.{BasicBlock}
use Rattle.ir_program.specs.declared.handles.IRNode.{IRNode}
use Rattle.ir_program.specs.declared.handles.IRNode.TheVariants.{Operation as OperationNode, BasicBlock as BlockNode}
use Rattle.ir_program.specs.declared.handles.IRNode.TheVariants.{Region as RegionNode}
use Rattle.ir_program.specs.declared.handles.Operation.{Operation}
use Rattle.ir_program.specs.declared.handles.Ptr.{Ptr}
use Rattle.ir_program.specs.declared.handles.Region.{Region}
use Rattle.opt_inside.specs.Outside.{AddsNoneOutside}

-- it is there, and isn't inside the root; a region is outside where the operation is whose region it is
abbrev pub IsOutside : {O B : Type 0} → Program O B → Ptr Operation → IRNode → Type 0
IsOutside c root (OperationNode p) =
    IsSome (operation_at c p) × (StandsInside c (OperationNode root) (OperationNode p) → ⊥)
IsOutside c root (BlockNode b) = IsSome (block_at c b) × (StandsInside c (OperationNode root) (BlockNode b) → ⊥)
IsOutside c root (RegionNode r) =
    (p : Ptr Operation) × StandsInOperation c r p × (StandsInside c (OperationNode root) (OperationNode p) → ⊥)

module _ {O B : Type 0} (old new : Program O B) (root : Ptr Operation) where
  -- what was outside is as it was: payloads, results, operands, successors, arguments, and what stands in it
  pub record KeepsRest : Type 0 where
    pub operations : (p : Ptr Operation) → IsOutside old root (OperationNode p)
        → operation_at new p ≡ operation_at old p
    pub blocks : (b : Ptr BasicBlock) → IsOutside old root (BlockNode b) → block_at new b ≡ block_at old b
    pub regions : (r : Ptr Region) → IsOutside old root (RegionNode r) → region_at new r ≡ region_at old r

  -- what was outside is so still: none of it has come into the module
  abbrev pub StaysOutside : Type 0
  StaysOutside = (e : IRNode) → IsOutside old root e → IsOutside new root e

  -- what was outside is as it was and outside still, and no operation has come there
  pub record LeavesRest : Type 0 where
    pub kept : KeepsRest
    pub stays : StaysOutside
    pub none_come : AddsNoneOutside old new root
