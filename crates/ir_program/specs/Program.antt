-- What a contract sees of a program: each operation, block and region by its handle, and the type of each value.
use Rattle.std.specs.Prelude.{ℕ, List, [], ◌∷◌, map, Option, Some, None, IsSome, option_map, unwrap_or, cond, eqb, slice_get, length}
use Rattle.ir_base.specs.declared.types.TypeHandle.{TypeHandle}
use Rattle.ir_arena.specs.declared.arena.Slot.{Slot}
use Rattle.ir_arena.specs.Arena.{get}
use Rattle.ir_entities.specs.Links.{list_at}
use Rattle.ir_entities.specs.Forest.{Forest, pointer_to}
use Rattle.ir_entities.specs.Uses.{Uses, key_of, place_of, named_of}
use Rattle.ir_program.specs.Handles.{handle}
use Rattle.ir_program.specs.declared.handles.Ptr.{Ptr}
use Rattle.ir_program.specs.declared.handles.Operation.{Operation}
use Rattle.ir_program.specs.declared.handles.Region.{Region as RegionClass}
use Rattle.ir_program.specs.declared.handles.BasicBlock.{BasicBlock}
use Rattle.ir_program.specs.declared.handles.Value.{Value}
use Rattle.ir_program.specs.declared.handles.DefiningEntity.{DefiningEntity}
use Rattle.ir_program.specs.declared.handles.DefiningEntity.TheVariants.{Op as ByOp, Block as ByBlock}
use Rattle.ir_program.specs.declared.records.Definition.{Definition}
use Rattle.ir_program.specs.declared.records.OperationRecord.{OperationRecord}
use Rattle.ir_program.specs.declared.records.BlockRecord.{BlockRecord}
use Rattle.ir_program.specs.declared.records.RegionRecord.{RegionRecord}

-- a value and its type
pub record TypedValue : Type 0 where
  pub value : Value
  pub ty : TypeHandle

-- an operation: its payload, its results with their types, the values that it takes, the blocks that it may go on to, and its regions
pub record OperationView (O : Type 0) : Type 0 where
  pub payload : O
  pub results : List TypedValue
  pub operands : List Value
  pub successors : List (Ptr BasicBlock)
  pub regions : List (Ptr RegionClass)

-- a block: its payload, its arguments with their types, and its operations in order
pub record BlockView (B : Type 0) : Type 0 where
  pub payload : B
  pub arguments : List TypedValue
  pub operations : List (Ptr Operation)

-- a region: its blocks in order
pub record RegionView : Type 0 where
  pub blocks : List (Ptr BasicBlock)

-- the parts of a program. Contracts speak of them by the words below: what each handle leads to, and the type of each value
pub record Program (O B : Type 0) : Type 0 where
  pub forest : Forest (OperationRecord O) (BlockRecord B) RegionRecord
  pub values : Uses Value
  pub targets : Uses (Ptr BasicBlock)
  pub counter : ℕ

-- the value of this definer that a definition stands for, with its type
abbrev pub typed_value : DefiningEntity → Definition → TypedValue
typed_value e d = record { value = record { definer = e; number = d.number }; ty = d.ty }

-- the key of a definition, where there is one
abbrev pub key_if : {K : Type 0} → Uses K → Option ℕ → Option K
key_if u None = None
key_if u (Some d) = key_of u d

-- what a place names
abbrev pub key_named : {K : Type 0} → Uses K → ℕ → Option K
key_named u q = key_if u (named_of (place_of u q))

-- what a place names, or `none` where the place is not in use
abbrev pub named_or : {K : Type 0} → K → Uses K → ℕ → K
named_or none u q = unwrap_or (key_named u q) none

-- the definition with this number
abbrev pub numbered : ℕ → List Definition → Option Definition
numbered n [] = None
numbered n (d ∷ ds) = cond (eqb d.number n) (Some d) (numbered n ds)

-- a handle that is never given out
abbrev pub no_handle : {E : Type 0} → Ptr E
no_handle = handle (record { slot = 0; version = 0 })

-- the values and blocks that places name
abbrev pub value_named : Uses Value → ℕ → Value
value_named = named_or (record { definer = ByOp no_handle; number = 0 })

abbrev pub block_named : Uses (Ptr BasicBlock) → ℕ → Ptr BasicBlock
block_named = named_or no_handle

-- the handles of what is in these slots now
abbrev pub handles_of : {T E : Type 0} → List (Slot T) → List ℕ → List (Ptr E)
handles_of slots is = map (λ i. handle (pointer_to slots i)) is

module _ {O B : Type 0} where
  abbrev pub operation_of : Program O B → Ptr Operation → OperationRecord O → OperationView O
  operation_of c p o = record {
    payload = o.payload;
    results = map (typed_value (ByOp p)) o.results.items;
    operands = map (value_named c.values) o.operands.items;
    successors = map (block_named c.targets) o.successors.items;
    regions = handles_of c.forest.regions (list_at c.forest.in_ops.lists p.key.slot);
  }

  abbrev pub block_of : Program O B → Ptr BasicBlock → BlockRecord B → BlockView B
  block_of c p b = record {
    payload = b.payload;
    arguments = map (typed_value (ByBlock p)) b.arguments.items;
    operations = handles_of c.forest.ops (list_at c.forest.in_blocks.lists p.key.slot);
  }

  abbrev pub region_of : Program O B → Ptr RegionClass → RegionView
  region_of c p = record { blocks = handles_of c.forest.blocks (list_at c.forest.in_regions.lists p.key.slot) }

  -- the operation, block or region that a handle leads to
  abbrev pub operation_at : Program O B → Ptr Operation → Option (OperationView O)
  operation_at c p = option_map (operation_of c p) (get c.forest.ops p.key)

  abbrev pub block_at : Program O B → Ptr BasicBlock → Option (BlockView B)
  block_at c p = option_map (block_of c p) (get c.forest.blocks p.key)

  abbrev pub region_at : Program O B → Ptr RegionClass → Option RegionView
  region_at c p = option_map (λ u. region_of c p) (get c.forest.regions p.key)

  -- the definitions of an entity, where it is there
  abbrev pub definitions_of : Program O B → DefiningEntity → List Definition
  definitions_of c (ByOp p) = unwrap_or (option_map (λ (o : OperationRecord O). o.results.items) (get c.forest.ops p.key)) []
  definitions_of c (ByBlock p) = unwrap_or (option_map (λ (b : BlockRecord B). b.arguments.items) (get c.forest.blocks p.key)) []

  abbrev pub definition_at : Program O B → Value → Option Definition
  definition_at c v = numbered v.number (definitions_of c v.definer)

  -- the type of a value that stands at its definer
  abbrev pub type_at : Program O B → Value → Option TypeHandle
  type_at c v = option_map (λ (d : Definition). d.ty) (definition_at c v)

  -- the value stands at its definer
  abbrev pub IsLiveValue : Program O B → Value → Type 0
  IsLiveValue c v = IsSome (type_at c v)

  -- the results of an operation, with their types
  abbrev pub results_at : Program O B → Ptr Operation → List TypedValue
  results_at c p = unwrap_or (option_map (λ (o : OperationView O). o.results) (operation_at c p)) []

  -- the arguments of a block, with their types
  abbrev pub arguments_at : Program O B → Ptr BasicBlock → List TypedValue
  arguments_at c p = unwrap_or (option_map (λ (b : BlockView B). b.arguments) (block_at c p)) []

  -- how many results an operation has
  abbrev pub result_count : Program O B → Ptr Operation → ℕ
  result_count c p = length (results_at c p)

  -- how many arguments a block has
  abbrev pub argument_count : Program O B → Ptr BasicBlock → ℕ
  argument_count c p = length (arguments_at c p)

-- the value at an index, and its type
abbrev pub value_in : List TypedValue → ℕ → Option Value
value_in ts k = option_map (λ (t : TypedValue). t.value) (slice_get ts k)

abbrev pub type_in : List TypedValue → ℕ → Option TypeHandle
type_in ts k = option_map (λ (t : TypedValue). t.ty) (slice_get ts k)
