-- What the operations and blocks that are found below the root of a tree are in the program of which the tree is.
use Rattle.std.specs.Prelude.{◌≡◌, ◌≢◌, ◌↔◌, ◌⊎◌, ℕ, true, [], ◌∷◌, Some, slice_get}
use Rattle.ir_program.specs.Program.{Program, OperationView, BlockView, operation_at, block_at}
use Rattle.ir_program.specs.Lists.{StandsInBlock, StandsInRegion, StandsInside, operations_in, blocks_in}
use Rattle.ir_program.specs.declared.handles.IRNode.TheVariants.{Operation as OperationNode, BasicBlock as BlockNode}
use Rattle.ir_program.specs.declared.handles.Ptr.{Ptr}
use Rattle.ir_program.specs.declared.handles.Operation.{Operation}
use Rattle.ir_program.specs.declared.handles.Region.{Region}
use Rattle.ir_program.specs.declared.handles.BasicBlock.{BasicBlock}
use Rattle.ir_program.specs.declared.handles.Value.{Value}
use Rattle.ir_trees.specs.Names.{Names, Contents}
use Rattle.ir_trees.specs.Places.{reached, AnOperation}
use Rattle.ir_trees.specs.Renames.{names_of}
use Rattle.ir_trees.specs.Stands.{by_handle, in_program, ProgramTree, head_of, label_of, AreTree, StandsFor}
use Rattle.ir_trees.specs.Trees.{Operations, Regions, Tree, Root}
use Rattle.opt_trees.specs.Occurrences.{Has, Spot, Occurrence, BlockOccurrence, occurrences_of, block_occurrences_of, defined_in}

-- operations and blocks that are found in the tree of an operation of a program
abbrev pub Found : Type 0 → Type 0 → Type 0
Found O B = Occurrence by_handle (in_program O B)

abbrev pub FoundBlock : Type 0 → Type 0 → Type 0
FoundBlock O B = BlockOccurrence by_handle (in_program O B)

module _ {N : Names} {S : Contents} (t : Root N S) where
  -- it holds of each operation that is found
  abbrev pub EachFound : (Occurrence N S → Type 0) → Type 0
  EachFound P = (o : Occurrence N S) → Has o (occurrences_of t) → P o

  -- it holds of each block that is found
  abbrev pub EachBlock : (BlockOccurrence N S → Type 0) → Type 0
  EachBlock P = (x : BlockOccurrence N S) → Has x (block_occurrences_of t) → P x

  -- an operation, or a block, of this name is found
  abbrev pub IsFound : N.operation → Type 0
  IsFound p = (o : Occurrence N S) × Has o (occurrences_of t) × (o.head.name ≡ p)

  abbrev pub IsBlockFound : N.block → Type 0
  IsBlockFound b = (x : BlockOccurrence N S) × Has x (block_occurrences_of t) × (x.label.name ≡ b)

  -- names of blocks are distinct
  abbrev pub BlockNamesApart : Type 0
  BlockNamesApart = (x y : BlockOccurrence N S) → Has x (block_occurrences_of t) → Has y (block_occurrences_of t) → x.label.name ≡ y.label.name → x ≡ y

-- the same region, with the same around it
pub record AreBeside {N : Names} {S : Contents} (a b : Spot N S) : Type 0 where
  pub owner : a.owner ≡ b.owner
  pub region : a.region ≡ b.region
  pub around : a.around ≡ b.around
  pub within : a.within ≡ b.within

-- the spot is in a region of the root, or of an operation that is found: around it is first this one, and then what is
-- around this one
abbrev pub IsNestedIn : {N : Names} {S : Contents} → Root N S → Spot N S → Type 0
IsNestedIn {N} {S} t s = ((s.owner ≡ t.head) × (s.around ≡ []) × (s.within ≡ []))
    ⊎ ((o : Occurrence N S) × Has o (occurrences_of t) × (s.owner ≡ o.head) × (s.around ≡ o.head.name ∷ o.site.spot.around) × (s.within ≡ o.site.label.name ∷ o.site.spot.within))

module _ {O B : Type 0} (c : Program O B) (op : Ptr Operation) where
  -- the operation is inside the root, and isn't the root
  pub record IsBelowRoot (p : Ptr Operation) : Type 0 where
    pub inside : StandsInside c (OperationNode op) (OperationNode p)
    pub other : p ≢ op

  -- the block is inside the root
  abbrev pub IsBlockBelow : Ptr BasicBlock → Type 0
  IsBlockBelow b = StandsInside c (OperationNode op) (BlockNode b)

  -- where the block is: in which region of which operation, at its start or not, and what is around it below the root
  pub record IsSpotOf (b : Ptr BasicBlock) (s : Spot by_handle (in_program O B)) : Type 0 where
    pub region : Ptr Region
    pub in_region : StandsInRegion c b region
    pub first : (s.first ≡ true) ↔ (slice_get (blocks_in c region) 0 ≡ Some b)
    pub owner_view : OperationView O
    pub owner_there : operation_at c s.owner.name ≡ Some owner_view
    pub owner : s.owner ≡ head_of s.owner.name owner_view
    pub index : slice_get owner_view.regions s.region ≡ Some region
    pub around : (a : Ptr Operation) → Has a s.around ↔ (IsBelowRoot a × StandsInside c (OperationNode a) (BlockNode b))
    pub within : (x : Ptr BasicBlock) → Has x s.within ↔ (IsBlockBelow x × (x ≢ b) × StandsInside c (BlockNode x) (BlockNode b))

  -- the block that is found, with its operations
  pub record IsBlockOccurrence (x : FoundBlock O B) : Type 0 where
    pub view : BlockView B
    pub there : block_at c x.label.name ≡ Some view
    pub label : x.label ≡ label_of x.label.name view
    pub operations : AreTree c Operations view.operations x.operations
    pub below : IsBlockBelow x.label.name
    pub spot : IsSpotOf x.label.name x.spot

  -- the operation that is found, with its regions, and the block that it is in
  pub record IsOccurrence (o : Found O B) : Type 0 where
    pub view : OperationView O
    pub there : operation_at c o.head.name ≡ Some view
    pub head : o.head ≡ head_of o.head.name view
    pub regions : AreTree c Regions view.regions o.regions
    pub below : IsBelowRoot o.head.name
    pub in_block : StandsInBlock c o.head.name o.site.label.name
    pub block_view : BlockView B
    pub block_there : block_at c o.site.label.name ≡ Some block_view
    pub label : o.site.label ≡ label_of o.site.label.name block_view
    pub spot : IsSpotOf o.site.label.name o.site.spot

  -- a result of an operation below the root, or an argument of a block there
  abbrev pub IsDefinedBelow : Value → Type 0
  IsDefinedBelow v = ((p : Ptr Operation) × (w : OperationView O) × IsBelowRoot p × (operation_at c p ≡ Some w) × Has v (names_of (head_of {B = B} p w).results))
      ⊎ ((b : Ptr BasicBlock) × (w : BlockView B) × IsBlockBelow b × (block_at c b ≡ Some w) × Has v (names_of (label_of {O = O} b w).arguments))

-- the block that an operation is found in is found itself, where the site says, and has the operation at one index in the
-- program and in the tree
pub record SiteIsFound {O B : Type 0} (c : Program O B) (t : ProgramTree O B) (o : Found O B) : Type 0 where
  pub block : FoundBlock O B
  pub found : Has block (block_occurrences_of t)
  pub label : block.label ≡ o.site.label
  pub spot : block.spot ≡ o.site.spot
  pub index : ℕ
  pub here : slice_get (operations_in c o.site.label.name) index ≡ Some o.head.name
  pub there : reached block.operations index [] ≡ Some (AnOperation (record { head = o.head; regions = o.regions }))

-- the operation at an index of a block that is found is found itself, at this index of the block's operations, with this
-- block as its site
pub record IsFoundIn {O B : Type 0} (t : ProgramTree O B) (x : FoundBlock O B) (k : ℕ) (p : Ptr Operation) : Type 0 where
  pub operation : Found O B
  pub found : Has operation (occurrences_of t)
  pub named : operation.head.name ≡ p
  pub site : operation.site ≡ record { spot = x.spot; label = x.label }
  pub there : reached x.operations k [] ≡ Some (AnOperation (record { head = operation.head; regions = operation.regions }))

module _ {O B : Type 0} (c : Program O B) where
  -- it holds of the tree that the operation stands for
  abbrev pub OfItsTree : Ptr Operation → (ProgramTree O B → Type 0) → Type 0
  OfItsTree op P = (t : ProgramTree O B) → StandsFor c op t → P t

  -- each operation of the block is found in it
  abbrev pub OperationsFound : ProgramTree O B → FoundBlock O B → Type 0
  OperationsFound t x = (k : ℕ) (p : Ptr Operation) → slice_get (operations_in c x.label.name) k ≡ Some p → IsFoundIn t x k p

  -- blocks that are found and stand in one region are so found
  abbrev pub RegionsTogether : ProgramTree O B → Type 0
  RegionsTogether t = (x y : FoundBlock O B) → Has x (block_occurrences_of t) → Has y (block_occurrences_of t) → (r : Ptr Region) → StandsInRegion c x.label.name r → StandsInRegion c y.label.name r → AreBeside x.spot y.spot

  -- the values that are defined in the regions are those that are defined below the operation
  abbrev pub DefinesAllBelow : Ptr Operation → Tree by_handle (in_program O B) Regions → Type 0
  DefinesAllBelow p rs = (v : Value) → Has v (defined_in rs) ↔ IsDefinedBelow c p v
