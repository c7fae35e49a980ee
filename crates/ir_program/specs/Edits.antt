-- What an edit changes, and that all else stays.
use Rattle.std.specs.Prelude.{◌≡◌, ◌≢◌, ℕ, [], ◌∷◌, ◌++◌, remove, option_map}
use Rattle.ir_arena.specs.Arena.{KeepsSpent}
use Rattle.ir_program.specs.Program.{Program, OperationView, BlockView, RegionView, operation_at, block_at, region_at, type_at}
use Rattle.ir_program.specs.Lists.{operations_in, blocks_in}
use Rattle.ir_program.specs.declared.handles.Ptr.{Ptr}
use Rattle.ir_program.specs.declared.handles.Operation.{Operation}
use Rattle.ir_program.specs.declared.handles.Region.{Region}
use Rattle.ir_program.specs.declared.handles.BasicBlock.{BasicBlock}
use Rattle.ir_program.specs.declared.handles.Value.{Value}

module _ {O B : Type 0} where
  -- a handle that was given out and leads nowhere leads nowhere for good
  pub record KeepsErased (old new : Program O B) : Type 0 where
    pub operations : KeepsSpent old.forest.ops new.forest.ops
    pub blocks : KeepsSpent old.forest.blocks new.forest.blocks
    pub regions : KeepsSpent old.forest.regions new.forest.regions

  -- each value keeps its type, and the number that comes next stays
  pub record KeepsValues (old new : Program O B) : Type 0 where
    pub types : (v : Value) → type_at new v ≡ type_at old v
    pub counter : new.counter ≡ old.counter

  -- each handle leads to what it led to; a slot that is vacant may have had more versions
  pub record IsUnchanged (old new : Program O B) : Type 0 where
    pub operations : (p : Ptr Operation) → operation_at new p ≡ operation_at old p
    pub blocks : (p : Ptr BasicBlock) → block_at new p ≡ block_at old p
    pub regions : (p : Ptr Region) → region_at new p ≡ region_at old p
    pub erased : KeepsErased old new
    pub counter : new.counter ≡ old.counter

  -- operation p is what f makes of it, and nothing else changes
  pub record EditsOperation (old new : Program O B) (p : Ptr Operation) (f : OperationView O → OperationView O) : Type 0 where
    pub edited : operation_at new p ≡ option_map f (operation_at old p)
    pub others : (q : Ptr Operation) → q ≢ p → operation_at new q ≡ operation_at old q
    pub blocks : (q : Ptr BasicBlock) → block_at new q ≡ block_at old q
    pub regions : (q : Ptr Region) → region_at new q ≡ region_at old q
    pub erased : KeepsErased old new

  -- block p is what f makes of it, and nothing else changes
  pub record EditsBlock (old new : Program O B) (p : Ptr BasicBlock) (f : BlockView B → BlockView B) : Type 0 where
    pub edited : block_at new p ≡ option_map f (block_at old p)
    pub others : (q : Ptr BasicBlock) → q ≢ p → block_at new q ≡ block_at old q
    pub operations : (q : Ptr Operation) → operation_at new q ≡ operation_at old q
    pub regions : (q : Ptr Region) → region_at new q ≡ region_at old q
    pub erased : KeepsErased old new

  -- region p is what f makes of it, and nothing else changes
  pub record EditsRegion (old new : Program O B) (p : Ptr Region) (f : RegionView → RegionView) : Type 0 where
    pub edited : region_at new p ≡ option_map f (region_at old p)
    pub others : (q : Ptr Region) → q ≢ p → region_at new q ≡ region_at old q
    pub operations : (q : Ptr Operation) → operation_at new q ≡ operation_at old q
    pub blocks : (q : Ptr BasicBlock) → block_at new q ≡ block_at old q
    pub erased : KeepsErased old new

  -- the operations of the block donor now stand behind those of the block donee, and nothing else changes
  pub record AppendsBlock (old new : Program O B) (donee donor : Ptr BasicBlock) : Type 0 where
    pub donee_edited : block_at new donee ≡ option_map (λ (v : BlockView B). record v { operations = v.operations ++ operations_in old donor }) (block_at old donee)
    pub donor_edited : block_at new donor ≡ option_map (λ (v : BlockView B). record v { operations = [] }) (block_at old donor)
    pub others : (q : Ptr BasicBlock) → q ≢ donee → q ≢ donor → block_at new q ≡ block_at old q
    pub operations : (q : Ptr Operation) → operation_at new q ≡ operation_at old q
    pub regions : (q : Ptr Region) → region_at new q ≡ region_at old q
    pub erased : KeepsErased old new

  -- the blocks of the region donor now stand behind those of the region donee, and nothing else changes
  pub record AppendsRegion (old new : Program O B) (donee donor : Ptr Region) : Type 0 where
    pub donee_edited : region_at new donee ≡ option_map (λ (v : RegionView). record v { blocks = v.blocks ++ blocks_in old donor }) (region_at old donee)
    pub donor_edited : region_at new donor ≡ option_map (λ (v : RegionView). record v { blocks = [] }) (region_at old donor)
    pub others : (q : Ptr Region) → q ≢ donee → q ≢ donor → region_at new q ≡ region_at old q
    pub operations : (q : Ptr Operation) → operation_at new q ≡ operation_at old q
    pub blocks : (q : Ptr BasicBlock) → block_at new q ≡ block_at old q
    pub erased : KeepsErased old new

  -- the region, which stood at index k of the operation `from`, is the last of the operation `to` now, and nothing else changes
  pub record MovesRegion (old new : Program O B) (region : Ptr Region) (from : Ptr Operation) (k : ℕ) (to : Ptr Operation) : Type 0 where
    pub from_edited : operation_at new from ≡ option_map (λ (v : OperationView O). record v { regions = remove v.regions k }) (operation_at old from)
    pub to_edited : operation_at new to ≡ option_map (λ (v : OperationView O). record v { regions = v.regions ++ region ∷ [] }) (operation_at old to)
    pub others : (q : Ptr Operation) → q ≢ from → q ≢ to → operation_at new q ≡ operation_at old q
    pub blocks : (q : Ptr BasicBlock) → block_at new q ≡ block_at old q
    pub regions : (q : Ptr Region) → region_at new q ≡ region_at old q
    pub erased : KeepsErased old new

  -- each operation is what f makes of it, and nothing else changes
  pub record EditsOperations (old new : Program O B) (f : Ptr Operation → OperationView O → OperationView O) : Type 0 where
    pub edited : (q : Ptr Operation) → operation_at new q ≡ option_map (f q) (operation_at old q)
    pub blocks : (q : Ptr BasicBlock) → block_at new q ≡ block_at old q
    pub regions : (q : Ptr Region) → region_at new q ≡ region_at old q
    pub erased : KeepsErased old new
