-- What a pass leaves of what isn't inside its root.
use Rattle.std.specs.Prelude.{◌≡◌, IsSome, map, Some}
use Rattle.ir_program.specs.Program.{Program, OperationView, BlockView, RegionView, operation_at, block_at, region_at}
use Rattle.ir_program.specs.Lists.{StandsInside}
use Rattle.ir_program.specs.declared.handles.IRNode.TheVariants.{Operation as OperationNode, Region as RegionNode, BasicBlock as BlockNode}
use Rattle.ir_program.specs.declared.handles.Ptr.{Ptr}
use Rattle.ir_program.specs.declared.handles.Operation.{Operation}
use Rattle.ir_program.specs.declared.handles.Region.{Region}
use Rattle.ir_program.specs.declared.handles.BasicBlock.{BasicBlock}
use Rattle.ir_program.specs.declared.handles.Value.{Value}

module _ {O B : Type 0} (old new : Program O B) (op : Ptr Operation) where
  -- what isn't inside the root is as it was, but for operands, of which each is what f makes of it
  pub record ChangesOperandsOutside (f : Value → Value) : Type 0 where
    pub operations : (p : Ptr Operation) (v : OperationView O) → (StandsInside old (OperationNode op) (OperationNode p) → ⊥) → operation_at old p ≡ Some v → operation_at new p ≡ Some (record v { operands = map f v.operands })
    pub blocks : (b : Ptr BasicBlock) (v : BlockView B) → (StandsInside old (OperationNode op) (BlockNode b) → ⊥) → block_at old b ≡ Some v → block_at new b ≡ Some v
    pub regions : (r : Ptr Region) (v : RegionView) → (StandsInside old (OperationNode op) (RegionNode r) → ⊥) → region_at old r ≡ Some v → region_at new r ≡ Some v

  -- what isn't inside the root is as it was
  pub record KeepsOutside : Type 0 where
    pub operations : (p : Ptr Operation) (v : OperationView O) → (StandsInside old (OperationNode op) (OperationNode p) → ⊥) → operation_at old p ≡ Some v → operation_at new p ≡ Some v
    pub blocks : (b : Ptr BasicBlock) (v : BlockView B) → (StandsInside old (OperationNode op) (BlockNode b) → ⊥) → block_at old b ≡ Some v → block_at new b ≡ Some v
    pub regions : (r : Ptr Region) (v : RegionView) → (StandsInside old (OperationNode op) (RegionNode r) → ⊥) → region_at old r ≡ Some v → region_at new r ≡ Some v

  -- no operation comes to be outside the root: what isn't inside it now was there before, and wasn't inside it
  abbrev pub AddsNoneOutside : Type 0
  AddsNoneOutside = (p : Ptr Operation) → IsSome (operation_at new p)
      → (StandsInside new (OperationNode op) (OperationNode p) → ⊥)
      → IsSome (operation_at old p) × (StandsInside old (OperationNode op) (OperationNode p) → ⊥)
