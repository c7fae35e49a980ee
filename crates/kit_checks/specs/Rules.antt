-- The fourteen rules, each of one operation where it is: what it says of itself, of what is in it, and of what is around it.
-- A module is good where each operation in it, the root too, keeps each rule. Each names the function that tests it.
use Rattle.std.specs.Prelude.{◌≡◌, ◌≢◌, ◌↔◌, ◌<◌, ◌+◌, ◌^◌, ◌⊎◌, ℕ, true, List, [], ◌∷◌, ◌++◌, map, length, Some, None, slice_get}
use Rattle.ir_base.specs.declared.types.TypeHandle.{TypeHandle}
use Rattle.ir_program.specs.declared.handles.Ptr.{Ptr}
use Rattle.ir_program.specs.declared.handles.BasicBlock.{BasicBlock}
use Rattle.ir_program.specs.declared.handles.Value.{Value}
use Rattle.ir_trees.specs.Searched.{Lists}
use Rattle.ir_trees.specs.Stands.{ProgramTree}
use Rattle.kit_ops.specs.declared.attributes.keys.TheConstants.{SYMBOL_NAME, FUNCTION_TYPE, CONSTANT_VALUE, SEGMENT_SIZES, GIVEN_NAMES, CALLEE, CALLEE_TYPE, NOTE, ORIGIN}
use Rattle.kit_ops.specs.declared.attributes.IntegerAttr.{IntegerAttr}
use Rattle.kit_ops.specs.declared.attributes.KitAttr.{KitAttr}
use Rattle.kit_ops.specs.declared.attributes.KitAttr.TheVariants as attrs
use Rattle.kit_ops.specs.declared.kinds.KitOp.{KitOp}
use Rattle.kit_ops.specs.declared.kinds.KitOp.TheVariants as ops
use Rattle.kit_ops.specs.declared.types.FunctionType.{FunctionType}
use Rattle.kit_checks.specs.World.{World}
use Rattle.kit_checks.specs.Sites.{Body, operation_list, block_list, region_list, Around, Site}
use Rattle.kit_checks.specs.Words.{Every, AreAllEqual, IsInteger, IsValueType, IsBit, HasType, HaveTypes, types_of, kind_of, attribute_of, symbol_name, own_type, signature, constant_value, callee_name, callee_type, callee_signature, segment_sizes, sizes_or_none, is_symbol, is_instruction, is_terminator, is_branch, along_edge, bodies_of, members_of, entry_of, visible, first_module, integer_type}

-- ---- what rules ask for in more than one clause

-- it has one region with one block, and this has no arguments
pub record HasModuleBody {O B : Type 0} (u : ProgramTree O B) : Type 0 where
  pub body : Body O B
  pub one : map block_list (region_list u.regions) ≡ (body ∷ []) ∷ []
  pub no_arguments : body.label.arguments ≡ []

module _ {O B : Type 0} (w : World O B) where
  -- no earlier operation of the block has its name
  abbrev pub HasFreshName : Around O B → ProgramTree O B → Type 0
  HasFreshName a u = (k : ℕ) (other : ProgramTree O B) (name : List ℕ) → k < a.index →
      slice_get (operation_list a.body.operations) k ≡ Some other → symbol_name w other ≡ Some name → symbol_name w u ≡ Some name → ⊥

  -- it has a function type, whose inputs and results are integers, and a first block, whose arguments have the input types
  pub record HasFunctionBody (u : ProgramTree O B) : Type 0 where
    pub type : FunctionType
    pub has_type : signature w u ≡ Some type
    pub inputs : Every (IsInteger w) type.inputs.items
    pub results : Every (IsInteger w) type.results.items
    pub entry : Body O B
    pub has_entry : entry_of u ≡ Some entry
    pub arguments : types_of entry.label.arguments ≡ type.inputs.items

  -- the block is one of the region, and where the operation is a branch the operands along the edge have the types of the
  -- block's arguments, in number and order
  pub record EdgeLeadsTo (u : ProgramTree O B) (a : Around O B) (edge : ℕ) (target : Ptr BasicBlock) : Type 0 where
    pub body : Body O B
    pub here : Lists (block_list a.blocks) body
    pub named : body.label.name ≡ target
    pub operands : is_branch (kind_of w u) ≡ true →
        HaveTypes w (along_edge (kind_of w u) (sizes_or_none (segment_sizes w u)) u.head.operands edge) (types_of body.label.arguments)

  -- it has the name of a function of the nearest module around it, and says the type of that; its operands and results have
  -- the inputs' and the results' types, in number and order
  pub record CallsFunction (u : ProgramTree O B) (a : Around O B) : Type 0 where
    pub scope : ProgramTree O B
    pub nearest : first_module w (a.owner ∷ a.outer) ≡ Some scope
    pub name : List ℕ
    pub has_name : callee_name w u ≡ Some name
    pub function : ProgramTree O B
    pub member : Lists (members_of scope) function
    pub is_function : kind_of w function ≡ ops.Func
    pub named : symbol_name w function ≡ Some name
    pub type : TypeHandle
    pub has_type : callee_type w u ≡ Some type
    pub same_type : own_type w function ≡ Some type
    pub signature : FunctionType
    pub is_signature : callee_signature w u ≡ Some signature
    pub operands : HaveTypes w u.head.operands signature.inputs.items
    pub results : types_of u.head.results ≡ signature.results.items

  -- its value is an integer attribute of the type of its results: of that type, which is an integer type, and a number below
  -- 2 to the power of the width
  pub record HasConstantValue (u : ProgramTree O B) : Type 0 where
    pub value : IntegerAttr
    pub has_value : constant_value w u ≡ Some value
    pub is_type : integer_type w value.ty ≡ Some value.integer
    pub in_range : value.bits < 2 ^ value.integer.width
    pub results : Every (λ h. h ≡ value.ty) (types_of u.head.results)

-- the key is one of the attributes that are a kind's own
abbrev pub IsOwnKey : KitOp → List ℕ → Type 0
IsOwnKey ops.Module key = key ≡ SYMBOL_NAME.now
IsOwnKey ops.Func key = (key ≡ SYMBOL_NAME.now) ⊎ (key ≡ FUNCTION_TYPE.now)
IsOwnKey ops.Constant key = key ≡ CONSTANT_VALUE.now
IsOwnKey ops.CondBr key = key ≡ SEGMENT_SIZES.now
IsOwnKey ops.Call key = (key ≡ CALLEE.now) ⊎ (key ≡ CALLEE_TYPE.now)
IsOwnKey _ key = ⊥

-- an attribute that every operation and every block may have: given names, a note, an origin, each under its own key
abbrev pub IsCommon : List ℕ × KitAttr → Type 0
IsCommon (key, attrs.GivenNames names) = key ≡ GIVEN_NAMES.now
IsCommon (key, attrs.Note text) = key ≡ NOTE.now
IsCommon (key, attrs.Origin text) = key ≡ ORIGIN.now
IsCommon (key, _) = ⊥

-- an attribute of an operation of a kind is under a key of this kind, or is one that every operation may have
abbrev pub MayHave : KitOp → List ℕ × KitAttr → Type 0
MayHave k e = IsOwnKey k e.0 ⊎ IsCommon e

-- so many results, successors and regions
pub record Counts {O B : Type 0} (u : ProgramTree O B) (r s g : ℕ) : Type 0 where
  pub results : length u.head.results ≡ r
  pub successors : length u.head.successors ≡ s
  pub regions : length (region_list u.regions) ≡ g

abbrev pub HasOperands : {O B : Type 0} → ProgramTree O B → ℕ → Type 0
HasOperands u n = length u.head.operands ≡ n

-- as many operands and results as a function type, and no successor or region
abbrev pub HasNumbersOf : {O B : Type 0} → ProgramTree O B → FunctionType → Type 0
HasNumbersOf u f = Counts u (length f.results.items) 0 0 × HasOperands u (length f.inputs.items)

-- an integer or a type
abbrev pub IsValue : KitAttr → Type 0
IsValue (attrs.Integer x) = Unit {0}
IsValue (attrs.Type h) = Unit {0}
IsValue _ = ⊥

-- the sizes of segments: one condition, the operands of the first edge and those of the second, so many in all
abbrev pub AreSegments : List ℕ → ℕ → Type 0
AreSegments sizes count = (first second : ℕ) × (sizes ≡ 1 ∷ first ∷ second ∷ []) × (count ≡ 1 + first + second)

module _ {O B : Type 0} (w : World O B) (u : ProgramTree O B) where
  -- it has a name, a type, a value of a constant
  abbrev pub HasName : Type 0
  HasName = (name : List ℕ) × (symbol_name w u ≡ Some name)

  abbrev pub HasOwnType : Type 0
  HasOwnType = (h : TypeHandle) × (own_type w u ≡ Some h)

  -- an integer or a type is under the key of a constant's value
  abbrev pub HasValue : Type 0
  HasValue = (v : KitAttr) × (attribute_of w u CONSTANT_VALUE.now ≡ Some v) × IsValue v

  -- its operands are the condition, and then those of the first edge and those of the second, as its sizes say
  abbrev pub HasSegments : Type 0
  HasSegments = (sizes : List ℕ) × (segment_sizes w u ≡ Some sizes) × AreSegments sizes (length u.head.operands)

  -- a call has a name
  abbrev pub HasCallee : Type 0
  HasCallee = (name : List ℕ) × (callee_name w u ≡ Some name)

  -- a call has the name and the type of a function, and as many operands and results as this type
  pub record HasCallNumbers : Type 0 where
    pub callee : HasCallee
    pub signature : FunctionType
    pub is_signature : callee_signature w u ≡ Some signature
    pub numbers : HasNumbersOf u signature

  -- the format of a kind: numbers of results, successors and regions, then of operands, then its own attributes
  abbrev pub FitsKind : KitOp → Type 0
  FitsKind ops.Module = Counts u 0 0 1 × HasOperands u 0 × HasName
  FitsKind ops.Func = Counts u 0 0 1 × HasOperands u 0 × HasName × HasOwnType
  FitsKind ops.Constant = Counts u 1 0 0 × HasOperands u 0 × HasValue
  FitsKind ops.ForwardRef = Counts u 1 0 0 × HasOperands u 0
  FitsKind (ops.Arithmetic a) = Counts u 1 0 0 × HasOperands u 2
  FitsKind (ops.Comparison a) = Counts u 1 0 0 × HasOperands u 2
  FitsKind ops.Br = Counts u 0 1 0
  FitsKind ops.CondBr = Counts u 0 2 0 × HasSegments
  FitsKind ops.Call = HasCallNumbers
  FitsKind ops.Emit = Counts u 0 0 0 × HasOperands u 1
  FitsKind ops.Return = Counts u 0 0 0

module _ {O B : Type 0} (w : World O B) (u : ProgramTree O B) where
  -- the condition, which is the first operand, is one bit
  abbrev pub HasCondition : Type 0
  HasCondition = (v : Value) → slice_get u.head.operands 0 ≡ Some v → (h : TypeHandle) × HasType w v h × IsBit w h

  -- the types that an operation of a kind has: all alike; operands alike and bits as results; a bit as the condition
  abbrev pub HasKindTypes : KitOp → Type 0
  HasKindTypes (ops.Arithmetic a) = AreAllEqual (map w.value_type u.head.operands ++ map Some (types_of u.head.results))
  HasKindTypes (ops.Comparison a) = AreAllEqual (map w.value_type u.head.operands) × Every (IsBit w) (types_of u.head.results)
  HasKindTypes ops.CondBr = HasCondition
  HasKindTypes _ = Unit {0}

-- ---- the rules

module _ {O B : Type 0} (w : World O B) (s : Site O B) where
  -- around the operation is this
  abbrev pub HasAround : Around O B → Type 0
  HasAround a = s.around ≡ Some a

  -- the kind of the operation, the kind of the one that owns its region
  abbrev pub kind : KitOp
  kind = kind_of w s.op

  abbrev pub InKind : KitOp → Around O B → Type 0
  InKind k a = HasAround a × (kind_of w a.owner ≡ k)

  -- 1. The root is a module. Tested by `root_is_module`.
  abbrev pub RootIsModule : Type 0
  RootIsModule = s.around ≡ None → kind ≡ ops.Module

  -- 2. A module has one region with one block without arguments. It holds modules and functions, and their names are
  -- distinct: each has a name that none before it has. Tested by `first_module_fault` of `kit_verifier`.
  pub record ModuleHolds : Type 0 where
    pub body : kind ≡ ops.Module → HasModuleBody s.op
    pub kinds : (a : Around O B) → InKind ops.Module a → is_symbol kind ≡ true
    pub names : (a : Around O B) → InKind ops.Module a → HasFreshName w a s.op

  -- 3. A function has a function type whose inputs and results are integers, and at least one block; the entry's arguments
  -- have its input types. Tested by `function_has_type`.
  abbrev pub FunctionHasType : Type 0
  FunctionHasType = kind ≡ ops.Func → HasFunctionBody w s.op

  -- 4. The blocks of a function hold constants and `kit` operations, without regions. Tested by `function_holds`.
  abbrev pub FunctionHolds : Type 0
  FunctionHolds = (a : Around O B) → InKind ops.Func a → (is_instruction kind ≡ true) × (region_list s.op.regions ≡ [])

  -- 5. Every value is an integer of width 1 to 64, of any signedness: the operation's results, and the arguments of the
  -- blocks in it. Tested by `values_are_integers`.
  pub record ValuesAreIntegers : Type 0 where
    pub results : Every (IsValueType w) (types_of s.op.head.results)
    pub arguments : Every (λ (b : Body O B). Every (IsValueType w) (types_of b.label.arguments)) (bodies_of s.op)

  -- 6. In a function the last operation of each block, and no other, is `br`, `cond_br` or `return`; and no block is empty.
  -- Tested by `blocks_end`.
  pub record BlocksEnd : Type 0 where
    pub last : (a : Around O B) → InKind ops.Func a →
        (is_terminator kind ≡ true) ↔ (a.index + 1 ≡ length (operation_list a.body.operations))
    pub none_empty : kind ≡ ops.Func → Every (λ (b : Body O B). operation_list b.operations ≢ []) (bodies_of s.op)

  -- 7. An operand is an earlier value of its own block or, outside the entry block, a value of the entry block. The root
  -- has no operand. Tested by `operands_are_visible`.
  pub record OperandsAreVisible : Type 0 where
    pub inside : (a : Around O B) → HasAround a → Every (Lists (visible a)) s.op.head.operands
    pub root : s.around ≡ None → s.op.head.operands ≡ []

  -- 8. Arithmetic has one type throughout: operands and results. The operands of a comparison have one type, and its results
  -- are signless integers of width 1. So is the condition of `cond_br`, its first operand. Tested by `types_agree`.
  abbrev pub TypesAgree : Type 0
  TypesAgree = HasKindTypes w s.op kind

  -- 9. A successor is a block of the operation's own region; the operands along an edge have its argument types, in number
  -- and order. The root, which is in no region, has no successor. Tested by `edges_fit`.
  abbrev pub EdgesFit : Type 0
  EdgesFit = (edge : ℕ) (target : Ptr BasicBlock) → slice_get s.op.head.successors edge ≡ Some target →
      (a : Around O B) × HasAround a × EdgeLeadsTo w s.op a edge target

  -- 10. A call's name is that of a function of the nearest enclosing module, whose type is the call's type; operands and
  -- results have it. Tested by `first_call_fault` of `kit_verifier`.
  abbrev pub CallsFit : Type 0
  CallsFit = kind ≡ ops.Call → (a : Around O B) × HasAround a × CallsFunction w s.op a

  -- 11. The operands of `return` have the result types of the function that it leaves. Tested by `returns_fit`.
  abbrev pub ReturnsFit : Type 0
  ReturnsFit = kind ≡ ops.Return → (a : Around O B) (f : FunctionType) → InKind ops.Func a → signature w a.owner ≡ Some f →
      HaveTypes w s.op.head.operands f.results.items

  -- 12. A constant's value is an integer attribute of its result's type. Tested by `constants_fit`.
  abbrev pub ConstantsFit : Type 0
  ConstantsFit = kind ≡ ops.Constant → HasConstantValue w s.op

  -- 13. There is no `forward_ref`. Beside a kind's own attributes operations, and the blocks in them, have only given names,
  -- notes and origins, each under its own key. Tested by `attributes_are_known`.
  pub record AttributesAreKnown : Type 0 where
    pub no_forward_ref : kind ≢ ops.ForwardRef
    pub own : Every (MayHave kind) (w.attributes s.op.head.content)
    pub blocks : Every (λ (b : Body O B). Every IsCommon (w.block_attributes b.label.content)) (bodies_of s.op)

  -- 14. Each operation fits its format: numbers of results, operands, successors and regions, and its own attributes.
  -- Tested by `fits_format`.
  abbrev pub FitsFormat : Type 0
  FitsFormat = FitsKind w s.op kind
