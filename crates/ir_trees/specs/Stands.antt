-- The tree that an operation of a program is, with handles as names.
use Rattle.std.specs.Prelude.{◌≡◌, List, [], ◌∷◌, map, Some}
use Rattle.ir_base.specs.declared.types.TypeHandle.{TypeHandle}
use Rattle.ir_program.specs.Program.{Program, TypedValue, OperationView, BlockView, RegionView, operation_at, block_at, region_at}
use Rattle.ir_program.specs.declared.handles.Ptr.{Ptr}
use Rattle.ir_program.specs.declared.handles.Operation.{Operation}
use Rattle.ir_program.specs.declared.handles.Region.{Region}
use Rattle.ir_program.specs.declared.handles.BasicBlock.{BasicBlock}
use Rattle.ir_program.specs.declared.handles.Value.{Value}
use Rattle.ir_trees.specs.Names.{Names, Contents}
use Rattle.ir_trees.specs.Trees.{Defined, Head, Label, Sort, Operations, Blocks, Regions, Tree, end, operation, block, region, Root}

-- handles as names
abbrev pub by_handle : Names
by_handle = record { operation = Ptr Operation; block = Ptr BasicBlock; value = Value }

-- what a program says at operations, blocks and values: what they carry, and types
abbrev pub in_program : Type 0 → Type 0 → Contents
in_program O B = record { of_operation = O; of_block = B; of_value = TypeHandle }

-- trees of what a program holds, and their parts
abbrev pub ProgramTree : Type 0 → Type 0 → Type 0
ProgramTree O B = Root by_handle (in_program O B)

abbrev pub ProgramHead : Type 0 → Type 0 → Type 0
ProgramHead O B = Head by_handle (in_program O B)

abbrev pub ProgramLabel : Type 0 → Type 0 → Type 0
ProgramLabel O B = Label by_handle (in_program O B)

-- handles of operations, of blocks or of regions
abbrev pub Handles : Sort → Type 0
Handles Operations = List (Ptr Operation)
Handles Blocks = List (Ptr BasicBlock)
Handles Regions = List (Ptr Region)

abbrev pub defined_by : TypedValue → Defined Value TypeHandle
defined_by v = record { name = v.value; holds = v.ty }

module _ {O B : Type 0} where
  -- an operation that a handle leads to, apart from its regions
  abbrev pub head_of : Ptr Operation → OperationView O → Head by_handle (in_program O B)
  head_of p v = record { name = p; content = v.payload; results = map defined_by v.results; operands = v.operands; successors = v.successors }

  -- a block that a handle leads to, apart from its operations
  abbrev pub label_of : Ptr BasicBlock → BlockView B → Label by_handle (in_program O B)
  label_of b v = record { name = b; content = v.payload; arguments = map defined_by v.arguments }

module _ {O B : Type 0} (c : Program O B) where
  -- the handles lead to what the tree lists, one after the other, with all that is in them
  pub data AreTree : (s : Sort) → Handles s → Tree by_handle (in_program O B) s → Type 0 where
    no_operations : AreTree Operations [] end
    no_blocks : AreTree Blocks [] end
    no_regions : AreTree Regions [] end
    first_operation : (p : Ptr Operation) (ps : List (Ptr Operation)) (v : OperationView O) (regions : Tree by_handle (in_program O B) Regions) (rest : Tree by_handle (in_program O B) Operations)
        → operation_at c p ≡ Some v → AreTree Regions v.regions regions → AreTree Operations ps rest → AreTree Operations (p ∷ ps) (operation (head_of p v) regions rest)
    first_block : (b : Ptr BasicBlock) (bs : List (Ptr BasicBlock)) (v : BlockView B) (operations : Tree by_handle (in_program O B) Operations) (rest : Tree by_handle (in_program O B) Blocks)
        → block_at c b ≡ Some v → AreTree Operations v.operations operations → AreTree Blocks bs rest → AreTree Blocks (b ∷ bs) (block (label_of b v) operations rest)
    first_region : (r : Ptr Region) (rs : List (Ptr Region)) (v : RegionView) (blocks : Tree by_handle (in_program O B) Blocks) (rest : Tree by_handle (in_program O B) Regions)
        → region_at c r ≡ Some v → AreTree Blocks v.blocks blocks → AreTree Regions rs rest → AreTree Regions (r ∷ rs) (region blocks rest)

  -- the operation is there, and the tree is what it is with all that is in it
  pub record StandsFor (p : Ptr Operation) (t : Root by_handle (in_program O B)) : Type 0 where
    pub view : OperationView O
    pub there : operation_at c p ≡ Some view
    pub head : t.head ≡ head_of p view
    pub regions : AreTree Regions view.regions t.regions
