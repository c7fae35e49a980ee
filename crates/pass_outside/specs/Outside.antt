-- What a pass at an operation leaves of all that isn't inside it.
use Rattle.std.specs.Prelude.{◌≡◌, ℕ, List, length, Some, IsSome, slice_get}
use Rattle.ir_program.specs.Lists.{StandsInOperation, StandsInside}
use Rattle.ir_program.specs.Program.{Program, OperationView, BlockView, operation_at, block_at, region_at}
use Rattle.ir_program.specs.declared.handles.BasicBlock.{BasicBlock}
use Rattle.ir_program.specs.declared.handles.IRNode.{IRNode}
use Rattle.ir_program.specs.declared.handles.IRNode.TheVariants.{Operation as OperationNode, BasicBlock as BlockNode}
use Rattle.ir_program.specs.declared.handles.IRNode.TheVariants.{Region as RegionNode}
use Rattle.ir_program.specs.declared.handles.Operation.{Operation}
use Rattle.ir_program.specs.declared.handles.Ptr.{Ptr}
use Rattle.ir_program.specs.declared.handles.Region.{Region}
use Rattle.ir_program.specs.declared.handles.Value.{Value}
use Rattle.opt_inside.specs.Occurring.{IsDefinedBelow}
use Rattle.opt_inside.specs.Outside.{AddsNoneOutside}
use Rattle.pass_outside.specs.Sound.{IsSound}

-- the node is live, and isn't inside the operation; a region isn't where the operation isn't whose region it is
abbrev pub IsLiveOutside : {O B : Type 0} → Program O B → Ptr Operation → IRNode → Type 0
IsLiveOutside c op (OperationNode p) =
    IsSome (operation_at c p) × (StandsInside c (OperationNode op) (OperationNode p) → ⊥)
IsLiveOutside c op (BlockNode b) = IsSome (block_at c b) × (StandsInside c (OperationNode op) (BlockNode b) → ⊥)
IsLiveOutside c op (RegionNode r) =
    (p : Ptr Operation) × StandsInOperation c r p × (StandsInside c (OperationNode op) (OperationNode p) → ⊥)

module _ {O B : Type 0} (old new : Program O B) (op : Ptr Operation) where
  -- of these operands each is as it was that isn't defined below the operation
  pub record KeepsOtherOperands (was now : List Value) : Type 0 where
    pub count : length now ≡ length was
    pub kept : (k : ℕ) (v : Value) → slice_get was k ≡ Some v → (IsDefinedBelow old op v → ⊥) → slice_get now k ≡ Some v

  -- The operation is live afterwards, and all that isn't inside it is as it was, but for operands that are defined
  -- below it, which may have become others. What wasn't inside it isn't inside it afterwards, and no operation has come
  -- outside of it.
  pub record LeavesOutside : Type 0 where
    pub sound : IsSound new
    pub live : IsSome (operation_at new op)
    pub operations : (p : Ptr Operation) (v : OperationView O) → (StandsInside old (OperationNode op) (OperationNode p) → ⊥)
        → operation_at old p ≡ Some v
        → (now : List Value) × (operation_at new p ≡ Some (record v { operands = now }))
        × KeepsOtherOperands v.operands now
    pub blocks : (b : Ptr BasicBlock) (v : BlockView B) → (StandsInside old (OperationNode op) (BlockNode b) → ⊥)
        → block_at old b ≡ Some v → block_at new b ≡ Some v
    pub regions : (r : Ptr Region) → IsLiveOutside old op (RegionNode r) → region_at new r ≡ region_at old r
    pub stays : (e : IRNode) → IsLiveOutside old op e → IsLiveOutside new op e
    pub none_come : AddsNoneOutside old new op
