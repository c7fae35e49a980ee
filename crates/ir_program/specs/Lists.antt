-- What stands where: the operations of each block, the blocks of each region and the regions of each operation.
use Rattle.std.specs.Prelude.{◌≡◌, ◌≢◌, ℕ, List, [], Some, None, IsSome, option_map, unwrap_or, slice_get}
use Rattle.ir_entities.specs.declared.forest.Place.{Place}
use Rattle.ir_entities.specs.declared.forest.Place.TheVariants.{Op, Block, Region as RegionPlace}
use Rattle.ir_program.specs.Program.{Program, OperationView, BlockView, RegionView, operation_at, block_at, region_at}
use Rattle.ir_program.specs.declared.handles.Ptr.{Ptr}
use Rattle.ir_program.specs.declared.handles.Operation.{Operation}
use Rattle.ir_program.specs.declared.handles.Region.{Region}
use Rattle.ir_program.specs.declared.handles.BasicBlock.{BasicBlock}
use Rattle.ir_program.specs.declared.handles.IRNode.{IRNode}
use Rattle.ir_program.specs.declared.handles.IRNode.TheVariants.{Operation as OperationNode, Region as RegionNode, BasicBlock as BlockNode}

-- the slot of an operation, a region or a block
abbrev pub place_of_node : IRNode → Place
place_of_node (OperationNode p) = Op p.key.slot
place_of_node (RegionNode p) = RegionPlace p.key.slot
place_of_node (BlockNode p) = Block p.key.slot

module _ {O B : Type 0} where
  -- the operations of a block, first to last; none where the handle leads to no block
  abbrev pub operations_in : Program O B → Ptr BasicBlock → List (Ptr Operation)
  operations_in c b = unwrap_or (option_map (λ (v : BlockView B). v.operations) (block_at c b)) []

  -- the blocks of a region, first to last
  abbrev pub blocks_in : Program O B → Ptr Region → List (Ptr BasicBlock)
  blocks_in c r = unwrap_or (option_map (λ (v : RegionView). v.blocks) (region_at c r)) []

  -- the regions of an operation, first to last
  abbrev pub regions_in : Program O B → Ptr Operation → List (Ptr Region)
  regions_in c p = unwrap_or (option_map (λ (v : OperationView O). v.regions) (operation_at c p)) []

  -- both handles lead somewhere, and the operation is one of the block's
  pub record StandsInBlock (c : Program O B) (p : Ptr Operation) (b : Ptr BasicBlock) : Type 0 where
    pub operation : IsSome (operation_at c p)
    pub block : IsSome (block_at c b)
    pub index : ℕ
    pub here : slice_get (operations_in c b) index ≡ Some p

  -- both handles lead somewhere, and the block is one of the region's
  pub record StandsInRegion (c : Program O B) (b : Ptr BasicBlock) (r : Ptr Region) : Type 0 where
    pub block : IsSome (block_at c b)
    pub region : IsSome (region_at c r)
    pub index : ℕ
    pub here : slice_get (blocks_in c r) index ≡ Some b

  -- both handles lead somewhere, and the region is one of the operation's
  pub record StandsInOperation (c : Program O B) (r : Ptr Region) (p : Ptr Operation) : Type 0 where
    pub region : IsSome (region_at c r)
    pub operation : IsSome (operation_at c p)
    pub index : ℕ
    pub here : slice_get (regions_in c p) index ≡ Some r

  -- the operation stands in no block
  abbrev pub IsUnlinkedOperation : Program O B → Ptr Operation → Type 0
  IsUnlinkedOperation c op = (block : Ptr BasicBlock) → StandsInBlock c op block → ⊥

  -- the operation stands in some block
  abbrev pub IsLinkedOperation : Program O B → Ptr Operation → Type 0
  IsLinkedOperation c op = (block : Ptr BasicBlock) × StandsInBlock c op block

  -- the block stands in no region
  abbrev pub IsUnlinkedBlock : Program O B → Ptr BasicBlock → Type 0
  IsUnlinkedBlock c block = (region : Ptr Region) → StandsInRegion c block region → ⊥

  -- the block stands in some region
  abbrev pub IsLinkedBlock : Program O B → Ptr BasicBlock → Type 0
  IsLinkedBlock c block = (region : Ptr Region) × StandsInRegion c block region

  -- the handle leads to an operation, a region or a block
  abbrev pub IsLiveNode : Program O B → IRNode → Type 0
  IsLiveNode c (OperationNode p) = IsSome (operation_at c p)
  IsLiveNode c (RegionNode p) = IsSome (region_at c p)
  IsLiveNode c (BlockNode p) = IsSome (block_at c p)

  -- no handle leads to an operation, a region or a block
  pub record IsEmptyProgram (c : Program O B) : Type 0 where
    pub operations : (p : Ptr Operation) → operation_at c p ≡ None
    pub regions : (p : Ptr Region) → region_at c p ≡ None
    pub blocks : (p : Ptr BasicBlock) → block_at c p ≡ None

  -- the inner is the outer, or stands in it, however far down
  pub data StandsInside (c : Program O B) (outer : IRNode) : IRNode → Type 0 where
    itself : StandsInside c outer outer
    in_block : (p : Ptr Operation) (b : Ptr BasicBlock) → StandsInBlock c p b → StandsInside c outer (BlockNode b) → StandsInside c outer (OperationNode p)
    in_region : (b : Ptr BasicBlock) (r : Ptr Region) → StandsInRegion c b r → StandsInside c outer (RegionNode r) → StandsInside c outer (BlockNode b)
    in_operation : (r : Ptr Region) (p : Ptr Operation) → StandsInOperation c r p → StandsInside c outer (OperationNode p) → StandsInside c outer (RegionNode r)

module _ {O B : Type 0} where
  -- the operations of the block donor can be moved behind those of the block donee: these are two, and none of the operations has donee inside it
  abbrev pub CanAppendOperations : Program O B → Ptr BasicBlock → Ptr BasicBlock → Type 0
  CanAppendOperations c donee donor = (donee ≢ donor) × ((op : Ptr Operation) → StandsInBlock c op donor → StandsInside c (OperationNode op) (BlockNode donee) → ⊥)

  -- so of the blocks of the region donor
  abbrev pub CanAppendBlocks : Program O B → Ptr Region → Ptr Region → Type 0
  CanAppendBlocks c donee donor = (donee ≢ donor) × ((block : Ptr BasicBlock) → StandsInRegion c block donor → StandsInside c (BlockNode block) (RegionNode donee) → ⊥)

-- no handle is in two of the lists, or twice in one
abbrev pub StandOnce : {E F : Type 0} → (Ptr F → List (Ptr E)) → Type 0
StandOnce {E} {F} listed = (p : Ptr E) (a b : Ptr F) (j k : ℕ) → slice_get (listed a) j ≡ Some p → slice_get (listed b) k ≡ Some p → (a ≡ b) × (j ≡ k)
