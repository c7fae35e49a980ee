-- What joining needs to know of the blocks inside an operation, by their numbers.
use Rattle.std.specs.Prelude.{◌≡◌, ◌↔◌, ℕ, true, List, length, Some, slice_get}
use Rattle.ir_program.specs.Lists.{blocks_in, StandsInRegion}
use Rattle.ir_program.specs.Program.{Program, OperationView, operation_at}
use Rattle.ir_program.specs.Uses.{IsPredecessorCount}
use Rattle.ir_program.specs.declared.handles.Ptr.{Ptr}
use Rattle.ir_program.specs.declared.handles.Operation.{Operation}
use Rattle.ir_program.specs.declared.handles.Region.{Region as ARegion}
use Rattle.ir_program.specs.declared.handles.BasicBlock.{BasicBlock}
use Rattle.ir_trees.specs.Searched.{Lists}
use Rattle.ir_trees.specs.Stands.{in_program}
use Rattle.opt_rows.specs.declared.chains.ChainBlock.{ChainBlock}
use Rattle.opt_trees.specs.Dialect.{Dialect}
use Rattle.opt_inside.specs.declared.reach.fates.Fate.{Fate}
use Rattle.opt_inside.specs.declared.reach.fates.Fate.TheVariants.{Entered}
use Rattle.opt_inside.specs.declared.reach.starts.Start.{Start}
use Rattle.opt_inside.specs.declared.reach.starts.Start.TheVariants.{Operation as AtOperation, Block as AtBlock, Region as AtRegion}
use Rattle.opt_chains.specs.Exits.{IsBareExit}

module _ {O B A : Type 0} (d : Dialect (in_program O B) A) (c : Program O B) where
  -- the block is in a region in which what comes first runs first
  pub record StandsInSsa (b : Ptr BasicBlock) : Type 0 where
    pub region : Ptr ARegion
    pub in_region : StandsInRegion c b region
    pub owner : Ptr Operation
    pub view : OperationView O
    pub there : operation_at c owner ≡ Some view
    pub index : ℕ
    pub here : slice_get view.regions index ≡ Some region
    pub ssa : d.is_ssa view.payload index ≡ true

  -- the block is entered in an SSA region, and goes on alone to the one with this number
  pub record GoesOn (keys : List (Ptr BasicBlock)) (fate : Fate) (b : Ptr BasicBlock) (n : ℕ) : Type 0 where
    pub entered : fate ≡ Entered
    pub ssa : StandsInSsa b
    pub branch : Ptr Operation
    pub target : Ptr BasicBlock
    pub exit : IsBareExit d c b branch target
    pub target_is : slice_get keys n ≡ Some target

  -- what joining sees of the block
  pub record IsChainBlock (keys : List (Ptr BasicBlock)) (fate : Fate) (b : Ptr BasicBlock) (x : ChainBlock) : Type 0 where
    pub only : (n : ℕ) → (x.only ≡ Some n) ↔ GoesOn keys fate b n
    pub entry : (r : Ptr ARegion) → StandsInRegion c b r → (x.is_entry ≡ true) ↔ (slice_get (blocks_in c r) 0 ≡ Some b)
    pub edges : IsPredecessorCount c b x.edges

  -- so of all blocks
  pub record AreChainBlocks (keys : List (Ptr BasicBlock)) (fates : List Fate) (xs : List ChainBlock) : Type 0 where
    pub len : length xs ≡ length keys
    pub each : (k : ℕ) (b : Ptr BasicBlock) (f : Fate) (x : ChainBlock) → slice_get keys k ≡ Some b →
        slice_get fates k ≡ Some f → slice_get xs k ≡ Some x → IsChainBlock keys f b x

-- one of the blocks stands in the region
abbrev pub HoldsOne : {O B : Type 0} → Program O B → Ptr ARegion → List (Ptr BasicBlock) → Type 0
HoldsOne c r bs = (b : Ptr BasicBlock) × Lists bs b × StandsInRegion c b r

-- looking begins at a region in which none of the blocks stands
abbrev pub IsElsewhere : {O B : Type 0} → Program O B → Start → List (Ptr BasicBlock) → Type 0
IsElsewhere c (AtOperation op) bs = ⊥
IsElsewhere c (AtBlock b) bs = ⊥
IsElsewhere c (AtRegion r) bs = HoldsOne c r bs → ⊥
