-- Which operation of a program is at a site of the tree that the root stands for.
use Rattle.std.specs.Prelude.{◌≡◌, ◌≢◌, ℕ, List, [], ◌∷◌, Option, Some, None, IsSome, slice_get}
use Rattle.ir_program.specs.Lists.{StandsInBlock, StandsInRegion, StandsInOperation, StandsInside, blocks_in, operations_in}
use Rattle.ir_program.specs.Program.{Program, BlockView, block_at, region_at}
use Rattle.ir_program.specs.Preorder.{nodes_in}
use Rattle.ir_program.specs.declared.handles.IRNode.{IRNode}
use Rattle.ir_program.specs.declared.handles.IRNode.TheVariants.{Operation as OperationNode}
use Rattle.ir_program.specs.declared.handles.Ptr.{Ptr}
use Rattle.ir_program.specs.declared.handles.Operation.{Operation}
use Rattle.ir_program.specs.declared.handles.Region.{Region}
use Rattle.ir_program.specs.declared.handles.BasicBlock.{BasicBlock}
use Rattle.ir_trees.specs.Stands.{ProgramTree, AreTree, StandsFor, label_of}
use Rattle.ir_trees.specs.Trees.{Operations, Blocks}
use Rattle.kit_checks.specs.Sites.{Listed, Body, Around, Site, site_at}

module _ {O B : Type 0} (c : Program O B) where
  -- the tree says what the block and its operations are
  pub record IsBody (block : Ptr BasicBlock) (body : Body O B) : Type 0 where
    pub view : BlockView B
    pub there : block_at c block ≡ Some view
    pub label : body.label ≡ label_of block view
    pub operations : AreTree c Operations view.operations body.operations

  -- the tree says what the blocks of the region are
  pub record RegionHasBlocks (r : Ptr Region) (blocks : Listed O B Blocks) : Type 0 where
    pub there : IsSome (region_at c r)
    pub listed : AreTree c Blocks (blocks_in c r) blocks

  -- the second operation owns the region that the first is in
  pub record IsOwnedBy (op owner : Ptr Operation) : Type 0 where
    pub block : Ptr BasicBlock
    pub region : Ptr Region
    pub in_block : StandsInBlock c op block
    pub in_region : StandsInRegion c block region
    pub in_owner : StandsInOperation c region owner

  module _ (root : Ptr Operation) where
    -- the trees are those of the operations that this one is in, the nearest first and the root last
    pub data AreOuter : Ptr Operation → List (ProgramTree O B) → Type 0 where
      at_root : AreOuter root []
      further : (op owner : Ptr Operation) (tree : ProgramTree O B) (trees : List (ProgramTree O B)) → op ≢ root → IsOwnedBy op owner →
          StandsFor c owner tree → AreOuter owner trees → AreOuter op (tree ∷ trees)

    -- what is around the operation is this
    pub record IsAround (op : Ptr Operation) (a : Around O B) : Type 0 where
      pub other : op ≢ root
      pub owner : Ptr Operation
      pub owner_is : StandsFor c owner a.owner
      pub outer : AreOuter owner a.outer
      pub region : Ptr Region
      pub in_owner : StandsInOperation c region owner
      pub blocks : AreTree c Blocks (blocks_in c region) a.blocks
      pub block : Ptr BasicBlock
      pub in_region : StandsInRegion c block region
      pub number : slice_get (blocks_in c region) a.number ≡ Some block
      pub body : IsBody block a.body
      pub in_block : StandsInBlock c op block
      pub index : slice_get (operations_in c block) a.index ≡ Some op

    -- nothing is around the root
    abbrev pub IsAroundIf : Ptr Operation → Option (Around O B) → Type 0
    IsAroundIf op None = op ≡ root
    IsAroundIf op (Some a) = IsAround op a

    -- the operation is inside the root, and is the one at the site
    pub record IsSiteOf (op : Ptr Operation) (s : Site O B) : Type 0 where
      pub inside : StandsInside c (OperationNode root) (OperationNode op)
      pub tree : StandsFor c op s.op
      pub around : IsAroundIf op s.around

-- down from an entity by the indices of what is in it, of what is in that, and so on, to another entity
abbrev pub LeadsDown : {O B : Type 0} → Program O B → IRNode → List ℕ → IRNode → Type 0
LeadsDown c e [] inner = e ≡ inner
LeadsDown c e (k ∷ path) inner = (next : IRNode) × (slice_get (nodes_in c e) k ≡ Some next) × LeadsDown c next path inner

-- the place is that of the operation in the tree that the root stands for
abbrev pub IsPlaceOf : {O B : Type 0} → Program O B → Ptr Operation → Ptr Operation → List ℕ → Type 0
IsPlaceOf {O} {B} c root op p = (t : ProgramTree O B) → StandsFor c root t → (s : Site O B) × (site_at t p ≡ Some s) × (s.op.head.name ≡ op)
