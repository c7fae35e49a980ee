-- Words of the rules: what an operation says of itself, and what it may name.
use Rattle.std.specs.Prelude.{◌≡◌, ◌≤◌, ℕ, zero, suc, Bool, true, false, cond, ◌==◌, List, [], ◌∷◌, ◌++◌, map, take, drop, Option, Some, None, option_and_then, slice_get}
use Rattle.ir_base.specs.declared.types.TypeHandle.{TypeHandle}
use Rattle.ir_names.specs.Dictionary.{attribute_at}
use Rattle.ir_names.specs.Identifier.{text_of}
use Rattle.ir_names.specs.declared.kinds.Signedness.TheVariants.{Signless}
use Rattle.ir_program.specs.declared.handles.Value.{Value}
use Rattle.ir_trees.specs.Searched.{Lists}
use Rattle.ir_trees.specs.Stands.{ProgramTree}
use Rattle.ir_trees.specs.Trees.{Defined, Blocks}
use Rattle.kit_ops.specs.declared.attributes.keys.TheConstants.{SYMBOL_NAME, FUNCTION_TYPE, CONSTANT_VALUE, SEGMENT_SIZES, CALLEE, CALLEE_TYPE}
use Rattle.kit_ops.specs.declared.attributes.IntegerAttr.{IntegerAttr}
use Rattle.kit_ops.specs.declared.attributes.KitAttr.{KitAttr}
use Rattle.kit_ops.specs.declared.attributes.KitAttr.TheVariants as attrs
use Rattle.kit_ops.specs.declared.kinds.KitOp.{KitOp}
use Rattle.kit_ops.specs.declared.kinds.KitOp.TheVariants as ops
use Rattle.kit_ops.specs.declared.types.FunctionType.{FunctionType}
use Rattle.kit_ops.specs.declared.types.IntegerType.{IntegerType}
use Rattle.kit_ops.specs.declared.types.KitType.{KitType}
use Rattle.kit_ops.specs.declared.types.KitType.TheVariants as types
use Rattle.kit_checks.specs.World.{World}
use Rattle.kit_checks.specs.Sites.{Listed, Body, operation_list, block_list, region_list, Around}

-- ---- lists

-- it holds of each member
abbrev pub Every : {X : Type 0} → (X → Type 0) → List X → Type 0
Every {X} P xs = (k : ℕ) (x : X) → slice_get xs k ≡ Some x → P x

-- all members are the same
abbrev pub AreAllEqual : {X : Type 0} → List X → Type 0
AreAllEqual {X} xs = (x y : X) → Lists xs x → Lists xs y → x ≡ y

-- the members of all the lists
abbrev pub joined : {X : Type 0} → List (List X) → List X
joined [] = []
joined (xs ∷ rest) = xs ++ joined rest

-- of the members of a list the segment with this index, where the first segments have these sizes: no members behind the
-- last segment, and only what there is where there are too few members
abbrev pub segment : {X : Type 0} → List X → List ℕ → ℕ → List X
segment xs [] i = []
segment xs (n ∷ sizes) zero = take n xs
segment xs (n ∷ sizes) (suc i) = segment (drop n xs) sizes i

-- ---- types

-- the type is an integer type
abbrev pub integer_of : KitType → Option IntegerType
integer_of (types.Integer t) = Some t
integer_of (types.Function f) = None
integer_of types.Unit = None

-- the type is a function type
abbrev pub function_of : KitType → Option FunctionType
function_of (types.Integer t) = None
function_of (types.Function f) = Some f
function_of types.Unit = None

module _ {O B : Type 0} (w : World O B) where
  -- the handle leads to this integer type, to this function type
  abbrev pub integer_type : TypeHandle → Option IntegerType
  integer_type h = option_and_then integer_of (w.type_key h)

  abbrev pub function_type : TypeHandle → Option FunctionType
  function_type h = option_and_then function_of (w.type_key h)

  -- an integer type, of whatever width
  abbrev pub IsInteger : TypeHandle → Type 0
  IsInteger h = (t : IntegerType) × (integer_type h ≡ Some t)

  -- an integer type of width 1 to 64, of any signedness
  abbrev pub IsValueType : TypeHandle → Type 0
  IsValueType h = (t : IntegerType) × (integer_type h ≡ Some t) × (1 ≤ t.width) × (t.width ≤ 64)

  -- the signless integer type of width 1
  abbrev pub IsBit : TypeHandle → Type 0
  IsBit h = integer_type h ≡ Some (record { signedness = Signless; width = 1 })

  -- the value has this type where it is defined
  abbrev pub HasType : Value → TypeHandle → Type 0
  HasType v h = w.value_type v ≡ Some h

  -- the values have these types, in number and order
  abbrev pub HaveTypes : List Value → List TypeHandle → Type 0
  HaveTypes vs hs = map w.value_type vs ≡ map Some hs

-- the types of results or arguments
abbrev pub types_of : List (Defined Value TypeHandle) → List TypeHandle
types_of ds = map (λ (d : Defined Value TypeHandle). d.holds) ds

-- the values that results or arguments are
abbrev pub values_of : List (Defined Value TypeHandle) → List Value
values_of ds = map (λ (d : Defined Value TypeHandle). d.name) ds

-- ---- attributes

-- the identifier, the type, the integer, the sizes that an attribute holds, if it is of that kind
abbrev pub identifier_in : KitAttr → Option (List ℕ)
identifier_in (attrs.Identifier id) = Some (text_of id)
identifier_in _ = None

abbrev pub type_in : KitAttr → Option TypeHandle
type_in (attrs.Type h) = Some h
type_in _ = None

abbrev pub integer_in : KitAttr → Option IntegerAttr
integer_in (attrs.Integer x) = Some x
integer_in _ = None

abbrev pub sizes_in : KitAttr → Option (List ℕ)
sizes_in (attrs.SegmentSizes sizes) = Some sizes.items
sizes_in _ = None

-- the sizes, or none
abbrev pub sizes_or_none : Option (List ℕ) → List ℕ
sizes_or_none None = []
sizes_or_none (Some sizes) = sizes

module _ {O B : Type 0} (w : World O B) (u : ProgramTree O B) where
  -- the kind of an operation, and its attributes
  abbrev pub kind_of : KitOp
  kind_of = w.kind u.head.content

  abbrev pub attribute_of : List ℕ → Option KitAttr
  attribute_of key = attribute_at (w.attributes u.head.content) key

  -- its name as a symbol
  abbrev pub symbol_name : Option (List ℕ)
  symbol_name = option_and_then identifier_in (attribute_of SYMBOL_NAME.now)

  -- a function's type: the handle that the function's attribute holds, and the function type that this leads to
  abbrev pub own_type : Option TypeHandle
  own_type = option_and_then type_in (attribute_of FUNCTION_TYPE.now)

  abbrev pub signature : Option FunctionType
  signature = option_and_then (function_type w) own_type

  -- a constant's value, where that is an integer
  abbrev pub constant_value : Option IntegerAttr
  constant_value = option_and_then integer_in (attribute_of CONSTANT_VALUE.now)

  -- the name that a call calls, the type that it says the function has, and the function type that this leads to
  abbrev pub callee_name : Option (List ℕ)
  callee_name = option_and_then identifier_in (attribute_of CALLEE.now)

  abbrev pub callee_type : Option TypeHandle
  callee_type = option_and_then type_in (attribute_of CALLEE_TYPE.now)

  abbrev pub callee_signature : Option FunctionType
  callee_signature = option_and_then (function_type w) callee_type

  -- how many operands each segment of a branch has; none where the attribute doesn't say it
  abbrev pub segment_sizes : Option (List ℕ)
  segment_sizes = option_and_then sizes_in (attribute_of SEGMENT_SIZES.now)

-- ---- kinds

abbrev pub is_module : KitOp → Bool
is_module ops.Module = true
is_module _ = false

-- modules and functions, which have names
abbrev pub is_symbol : KitOp → Bool
is_symbol ops.Module = true
is_symbol ops.Func = true
is_symbol _ = false

-- constants and the operations of `kit`, which stand in the blocks of functions
abbrev pub is_instruction : KitOp → Bool
is_instruction ops.Module = false
is_instruction ops.Func = false
is_instruction ops.ForwardRef = false
is_instruction _ = true

-- what ends a block: `br`, `cond_br` and `return`
abbrev pub is_terminator : KitOp → Bool
is_terminator ops.Br = true
is_terminator ops.CondBr = true
is_terminator ops.Return = true
is_terminator _ = false

-- what hands operands on along its edges: `br` and `cond_br`
abbrev pub is_branch : KitOp → Bool
is_branch ops.Br = true
is_branch ops.CondBr = true
is_branch _ = false

-- arithmetic, comparisons, the conditional branch
abbrev pub is_arithmetic : KitOp → Bool
is_arithmetic (ops.Arithmetic a) = true
is_arithmetic _ = false

abbrev pub is_comparison : KitOp → Bool
is_comparison (ops.Comparison a) = true
is_comparison _ = false

abbrev pub is_cond_br : KitOp → Bool
is_cond_br ops.CondBr = true
is_cond_br _ = false

-- the operands that an operation of a kind hands on along an edge: `br` all of them, `cond_br` those of the segment behind
-- the condition's that is the edge's
abbrev pub along_edge : KitOp → List ℕ → List Value → ℕ → List Value
along_edge ops.Br sizes operands i = operands
along_edge ops.CondBr sizes operands i = segment operands sizes (suc i)
along_edge _ sizes operands i = []

-- ---- what is in an operation and around it

module _ {O B : Type 0} where
  -- the blocks of all its regions
  abbrev pub bodies_of : ProgramTree O B → List (Body O B)
  bodies_of u = joined (map block_list (region_list u.regions))

  -- the operations of all blocks of all its regions
  abbrev pub members_of : ProgramTree O B → List (ProgramTree O B)
  members_of u = joined (map (λ (b : Body O B). operation_list b.operations) (bodies_of u))

  -- the first block of a region; the entry of a function: the first block of its first region
  abbrev pub first_body : Listed O B Blocks → Option (Body O B)
  first_body blocks = slice_get (block_list blocks) 0

  abbrev pub entry_of : ProgramTree O B → Option (Body O B)
  entry_of u = option_and_then first_body (slice_get (region_list u.regions) 0)

  -- the values that operations define, in order
  abbrev pub results_of : List (ProgramTree O B) → List Value
  results_of us = joined (map (λ (u : ProgramTree O B). values_of u.head.results) us)

  -- the values of a block up to an operation: its arguments, and the results of the operations before that
  abbrev pub values_before : Body O B → ℕ → List Value
  values_before b k = values_of b.label.arguments ++ results_of (take k (operation_list b.operations))

  -- all values of a block
  abbrev pub values_in : Body O B → List Value
  values_in b = values_of b.label.arguments ++ results_of (operation_list b.operations)

  -- the values of a block, where there is one
  abbrev pub values_if : Option (Body O B) → List Value
  values_if None = []
  values_if (Some b) = values_in b

  -- the values that an operation there may name: the earlier ones of its own block and, outside the entry block of the
  -- region, those of the entry block
  abbrev pub visible : Around O B → List Value
  visible a = values_before a.body a.index ++ cond (a.number == 0) [] (values_if (first_body a.blocks))

-- the first module among these operations
abbrev pub first_module : {O B : Type 0} → World O B → List (ProgramTree O B) → Option (ProgramTree O B)
first_module w [] = None
first_module w (u ∷ us) = cond (is_module (kind_of w u)) (Some u) (first_module w us)
