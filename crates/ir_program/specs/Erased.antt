-- What erasing an entity takes away, and when it may.
use Rattle.std.specs.Prelude.{◌≡◌, ℕ, Some, None, option_map, slice_get, remove}
use Rattle.ir_arena.specs.Arena.{IsSpent}
use Rattle.ir_program.specs.Program.{Program, OperationView, BlockView, RegionView, operation_at, block_at, region_at, type_at}
use Rattle.ir_program.specs.Rows.{operands_at, successors_at}
use Rattle.ir_program.specs.Lists.{StandsInside, StandsInBlock, StandsInRegion, StandsInOperation, IsLiveNode, operations_in, blocks_in, regions_in}
use Rattle.ir_program.specs.Edits.{KeepsErased}
use Rattle.ir_program.specs.declared.handles.Ptr.{Ptr}
use Rattle.ir_program.specs.declared.handles.Operation.{Operation}
use Rattle.ir_program.specs.declared.handles.Region.{Region}
use Rattle.ir_program.specs.declared.handles.BasicBlock.{BasicBlock}
use Rattle.ir_program.specs.declared.handles.Value.{Value}
use Rattle.ir_program.specs.declared.handles.DefiningEntity.{DefiningEntity}
use Rattle.ir_program.specs.declared.handles.DefiningEntity.TheVariants.{Op as ByOp, Block as ByBlock}
use Rattle.ir_program.specs.declared.handles.IRNode.{IRNode}
use Rattle.ir_program.specs.declared.handles.IRNode.TheVariants.{Operation as OperationNode, Region as RegionNode, BasicBlock as BlockNode}

-- the entity that defines values
abbrev pub definer_node : DefiningEntity → IRNode
definer_node (ByOp p) = OperationNode p
definer_node (ByBlock b) = BlockNode b

module _ {O B : Type 0} where
  -- no operation outside x takes a value that is defined inside x, or may go on to a block inside x
  pub record IsApart (c : Program O B) (x : IRNode) : Type 0 where
    pub values : (p : Ptr Operation) (k : ℕ) (v : Value) → slice_get (operands_at c p) k ≡ Some v → StandsInside c x (definer_node v.definer) → StandsInside c x (OperationNode p)
    pub blocks : (p : Ptr Operation) (k : ℕ) (b : Ptr BasicBlock) → slice_get (successors_at c p) k ≡ Some b → StandsInside c x (BlockNode b) → StandsInside c x (OperationNode p)

  -- the handle was given out, and leads nowhere for good
  abbrev pub IsGone : Program O B → IRNode → Type 0
  IsGone c (OperationNode p) = (operation_at c p ≡ None) × IsSpent c.forest.ops p.key
  IsGone c (BlockNode b) = (block_at c b ≡ None) × IsSpent c.forest.blocks b.key
  IsGone c (RegionNode r) = (region_at c r ≡ None) × IsSpent c.forest.regions r.key

  -- x and all that stood inside it is gone, and each other operation, block and region is as it was
  pub record Erases (old new : Program O B) (x : IRNode) : Type 0 where
    pub gone : (e : IRNode) → IsLiveNode old e → StandsInside old x e → IsGone new e
    pub operations : (p : Ptr Operation) → (StandsInside old x (OperationNode p) → ⊥) → operation_at new p ≡ operation_at old p
    pub blocks : (b : Ptr BasicBlock) → (StandsInside old x (BlockNode b) → ⊥) → block_at new b ≡ block_at old b
    pub regions : (r : Ptr Region) → (StandsInside old x (RegionNode r) → ⊥) → region_at new r ≡ region_at old r
    pub types : (v : Value) → (StandsInside old x (definer_node v.definer) → ⊥) → type_at new v ≡ type_at old v
    pub erased : KeepsErased old new
    pub counter : new.counter ≡ old.counter

  -- operation p and all that stood inside it is gone, the block that it stood in has its other operations, and each other operation, block and region is as it was
  pub record ErasesOperation (old new : Program O B) (p : Ptr Operation) : Type 0 where
    pub gone : (e : IRNode) → IsLiveNode old e → StandsInside old (OperationNode p) e → IsGone new e
    pub operations : (q : Ptr Operation) → (StandsInside old (OperationNode p) (OperationNode q) → ⊥) → operation_at new q ≡ operation_at old q
    pub holder : (b : Ptr BasicBlock) (k : ℕ) → slice_get (operations_in old b) k ≡ Some p → block_at new b ≡ option_map (λ (v : BlockView B). record v { operations = remove v.operations k }) (block_at old b)
    pub blocks : (b : Ptr BasicBlock) → (StandsInside old (OperationNode p) (BlockNode b) → ⊥) → (StandsInBlock old p b → ⊥) → block_at new b ≡ block_at old b
    pub regions : (r : Ptr Region) → (StandsInside old (OperationNode p) (RegionNode r) → ⊥) → region_at new r ≡ region_at old r
    pub types : (v : Value) → (StandsInside old (OperationNode p) (definer_node v.definer) → ⊥) → type_at new v ≡ type_at old v
    pub erased : KeepsErased old new
    pub counter : new.counter ≡ old.counter

  -- block p and all that stood inside it is gone, the region that it stood in has its other blocks, and each other operation, block and region is as it was
  pub record ErasesBlock (old new : Program O B) (p : Ptr BasicBlock) : Type 0 where
    pub gone : (e : IRNode) → IsLiveNode old e → StandsInside old (BlockNode p) e → IsGone new e
    pub operations : (q : Ptr Operation) → (StandsInside old (BlockNode p) (OperationNode q) → ⊥) → operation_at new q ≡ operation_at old q
    pub blocks : (b : Ptr BasicBlock) → (StandsInside old (BlockNode p) (BlockNode b) → ⊥) → block_at new b ≡ block_at old b
    pub holder : (r : Ptr Region) (k : ℕ) → slice_get (blocks_in old r) k ≡ Some p → region_at new r ≡ option_map (λ (v : RegionView). record v { blocks = remove v.blocks k }) (region_at old r)
    pub regions : (r : Ptr Region) → (StandsInside old (BlockNode p) (RegionNode r) → ⊥) → (StandsInRegion old p r → ⊥) → region_at new r ≡ region_at old r
    pub types : (v : Value) → (StandsInside old (BlockNode p) (definer_node v.definer) → ⊥) → type_at new v ≡ type_at old v
    pub erased : KeepsErased old new
    pub counter : new.counter ≡ old.counter

  -- region p and all that stood inside it is gone, the operation that it stood in has its other regions, and each other operation, block and region is as it was
  pub record ErasesRegion (old new : Program O B) (p : Ptr Region) : Type 0 where
    pub gone : (e : IRNode) → IsLiveNode old e → StandsInside old (RegionNode p) e → IsGone new e
    pub holder : (q : Ptr Operation) (k : ℕ) → slice_get (regions_in old q) k ≡ Some p → operation_at new q ≡ option_map (λ (v : OperationView O). record v { regions = remove v.regions k }) (operation_at old q)
    pub operations : (q : Ptr Operation) → (StandsInside old (RegionNode p) (OperationNode q) → ⊥) → (StandsInOperation old p q → ⊥) → operation_at new q ≡ operation_at old q
    pub blocks : (b : Ptr BasicBlock) → (StandsInside old (RegionNode p) (BlockNode b) → ⊥) → block_at new b ≡ block_at old b
    pub regions : (r : Ptr Region) → (StandsInside old (RegionNode p) (RegionNode r) → ⊥) → region_at new r ≡ region_at old r
    pub types : (v : Value) → (StandsInside old (RegionNode p) (definer_node v.definer) → ⊥) → type_at new v ≡ type_at old v
    pub erased : KeepsErased old new
    pub counter : new.counter ≡ old.counter
