-- Programs into which some constants have been put so far, record by record.
use Rattle.std.specs.Prelude.{◌≡◌, ◌≢◌, ℕ, List, [], ◌∷◌, ◌++◌, map, Option, Some, None, IsSome, option_map, cond}
use Rattle.ir_base.specs.declared.types.TypeHandle.{TypeHandle}
use Rattle.ir_program.specs.Program.{Program, OperationView, BlockView, operation_at, block_at, region_at, value_in}
use Rattle.ir_program.specs.Definers.{values_at}
use Rattle.ir_program.specs.Lists.{IsLinkedOperation}
use Rattle.ir_program.specs.ListEdits.{PutsOperationFirst, PutsOperationBefore}
use Rattle.ir_program.specs.Made.{BuildsOperation}
use Rattle.ir_program.specs.Replacing.{same_value}
use Rattle.ir_program.specs.UseEdits.{ReplacesValue}
use Rattle.ir_program.specs.declared.handles.Ptr.{Ptr}
use Rattle.ir_program.specs.declared.handles.Operation.{Operation}
use Rattle.ir_program.specs.declared.handles.Region.{Region}
use Rattle.ir_program.specs.declared.handles.BasicBlock.{BasicBlock}
use Rattle.ir_program.specs.declared.handles.Value.{Value}
use Rattle.ir_program.specs.declared.handles.DefiningEntity.{DefiningEntity}
use Rattle.ir_program.specs.declared.handles.DefiningEntity.TheVariants.{Op as ByOp, Block as ByBlock}
use Rattle.ir_trees.specs.Trees.{Defined, Operations, Tree, end, operation}
use Rattle.ir_trees.specs.Stands.{by_handle, in_program, ProgramHead, label_of}
use Rattle.ir_trees.specs.Rewrites.{Rewriting, roots, operations_after}
use Rattle.ir_trees.specs.ListRewrites.{as_it_is}
use Rattle.opt_trees.specs.Dialect.{Dialect}
use Rattle.opt_trees.specs.Occurrences.{Has}
use Rattle.opt_sccp.specs.declared.putting.Made.{Made}

-- a constant that was put in for a value: what its operation carries, the operation, and its result
pub record Placed (O A : Type 0) : Type 0 where
  pub made : Made A
  pub content : O
  pub op : Ptr Operation
  pub result : Value

-- by values, the constants that were put in for them
abbrev pub PlacedFor : Type 0 → Type 0 → Type 0
PlacedFor O A = Value → Option (Placed O A)

-- what was put in for a value
abbrev pub placed_for : {O A : Type 0} → List (Placed O A) → PlacedFor O A
placed_for [] v = None
placed_for (x ∷ xs) v = cond (same_value v x.made.value) (Some x) (placed_for xs v)

-- what uses of a value are uses of now
abbrev pub used_for : {O A : Type 0} → Value → Option (Placed O A) → Value
used_for v None = v
used_for v (Some x) = x.result

abbrev pub renamed : {O A : Type 0} → PlacedFor O A → List Value → List Value
renamed f vs = map (λ v. used_for v (f v)) vs

-- lists of operations, with what is in them
abbrev pub ProgramList : Type 0 → Type 0 → Type 0
ProgramList O B = Tree by_handle (in_program O B) Operations

module _ {O B A : Type 0} (d : Dialect (in_program O B) A) where
  -- the operation of a constant
  abbrev pub constant_head : Placed O A → ProgramHead O B
  constant_head x = record {
    name = x.op;
    content = x.content;
    results = record { name = x.result; holds = d.constant_type x.made.constant } ∷ [];
    operands = [];
    successors = [];
  }

  abbrev pub constant_if : Option (Placed O A) → ProgramList O B → ProgramList O B
  constant_if None rest = rest
  constant_if (Some x) rest = operation (constant_head x) end rest

  module _ (f : PlacedFor O A) where
    -- the constants of an operation's results, in order
    abbrev pub for_results : List (Defined Value TypeHandle) → ProgramList O B
    for_results [] = end
    for_results (v ∷ vs) = constant_if (f v.name) (for_results vs)

    -- those of a block's arguments, the last argument's first, in front of others
    abbrev pub for_arguments : List (Defined Value TypeHandle) → ProgramList O B → ProgramList O B
    for_arguments [] rest = rest
    for_arguments (v ∷ vs) rest = for_arguments vs (constant_if (f v.name) rest)

    -- before each operation the constants of its results, at the start of each block those of its arguments, and other operands
    abbrev pub puts_constants : Rewriting by_handle (in_program O B)
    puts_constants = record as_it_is {
      before = λ h. for_results h.results;
      first = λ l. for_arguments l.arguments end;
      head = λ h. record h { operands = renamed f h.operands };
    }

    -- the operations of a block with these constants
    abbrev pub listed_in : Program O B → Ptr BasicBlock → BlockView B → List (Ptr Operation)
    listed_in old b v = roots (for_arguments (label_of {O = O} b v).arguments end) ++ operations_after old puts_constants v.operations

-- the constant's operation is there, under a handle that led nowhere, and holds nothing but its content and its one result
pub record IsConstant {O B A : Type 0} (d : Dialect (in_program O B) A) (old new : Program O B) (x : Placed O A) : Type 0 where
  pub makes : d.constant x.made.constant ≡ Some x.content
  pub fresh : operation_at old x.op ≡ None
  pub there : operation_at new x.op ≡ Some (record {
    payload = x.content;
    results = record { value = x.result; ty = d.constant_type x.made.constant } ∷ [];
    operands = [];
    successors = [];
    regions = [];
  })
  pub own : x.result.definer ≡ ByOp x.op

-- these constants were put in one after the other, and nothing else has changed
pub record HasPutConstants {O B A : Type 0} (d : Dialect (in_program O B) A) (old new : Program O B) (ps : List (Placed O A)) : Type 0 where
  pub constants : (x : Placed O A) → Has x ps → IsConstant d old new x
  -- each its own operation
  pub apart : (x y : Placed O A) → Has x ps → Has y ps → x.op ≡ y.op → x.made.value ≡ y.made.value
  -- each other operation takes the constants in place of the values
  pub operations : (p : Ptr Operation) → ((x : Placed O A) → Has x ps → p ≢ x.op)
      → operation_at new p
      ≡ option_map (λ (v : OperationView O). record v { operands = renamed (placed_for ps) v.operands }) (operation_at old p)
  -- each block lists the constants of its arguments, the last one's first, and before each operation those of its results
  pub blocks : (b : Ptr BasicBlock)
      → block_at new b ≡ option_map (λ (v : BlockView B). record v { operations = listed_in d (placed_for ps) old b v }) (block_at old b)
  pub regions : (r : Ptr Region) → region_at new r ≡ region_at old r

-- right before the operation that defines a value, or first in the block that does
abbrev pub PutsAtDefiner : {O B : Type 0} → Program O B → Program O B → DefiningEntity → Ptr Operation → Type 0
PutsAtDefiner old new (ByOp p) op = PutsOperationBefore old new p op
PutsAtDefiner old new (ByBlock b) op = PutsOperationFirst old new b op

-- one constant is put in: its operation is made, put at the value's definer, and its result replaces the value
pub record PutsOne {O B A : Type 0} (d : Dialect (in_program O B) A) (old new : Program O B) (x : Placed O A) : Type 0 where
  pub makes : d.constant x.made.constant ≡ Some x.content
  -- the states in between
  pub built : Program O B
  pub put : Program O B
  pub builds : BuildsOperation old built x.op x.content (d.constant_type x.made.constant ∷ []) [] [] 0
  pub result : x.result ≡ record { definer = ByOp x.op; number = old.counter }
  pub puts : PutsAtDefiner built put x.made.value.definer x.op
  pub replaces : ReplacesValue put new x.made.value x.result

-- the constant that is put in is that of the list's value
abbrev pub PutsMade : {O B A : Type 0} → Dialect (in_program O B) A → Program O B → Program O B → Made A → Type 0
PutsMade {O} {B} {A} d old new made = (x : Placed O A) × (x.made ≡ made) × PutsOne d old new x

-- the operation is in a block, or the block is there
abbrev pub DefinerIsPlaced : {O B : Type 0} → Program O B → DefiningEntity → Type 0
DefinerIsPlaced c (ByOp p) = IsLinkedOperation c p
DefinerIsPlaced c (ByBlock b) = IsSome (block_at c b)

-- the value stands at its definer, where a constant can be put
pub record CanPutAt {O B : Type 0} (c : Program O B) (v : Value) : Type 0 where
  pub place : DefinerIsPlaced c v.definer
  pub index : ℕ
  pub stands : value_in (values_at c v.definer) index ≡ Some v

-- each handle leads to what it led to
pub record LeadsAlike {O B : Type 0} (old new : Program O B) : Type 0 where
  pub operations : (p : Ptr Operation) → operation_at new p ≡ operation_at old p
  pub blocks : (b : Ptr BasicBlock) → block_at new b ≡ block_at old b
  pub regions : (r : Ptr Region) → region_at new r ≡ region_at old r
