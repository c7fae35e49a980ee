-- What the dialect of the tests says of its kinds.
use Rattle.std.specs.Prelude.{ℕ, Bool, true, false, List, [], ◌∷◌, Option, Some, None, codes}
use Rattle.ir_base.specs.declared.types.TypeHandle.{TypeHandle}
use Rattle.ir_names.specs.Identifier.{text_of}
use Rattle.ir_names.specs.declared.interfaces.OpInterface.{OpInterface}
use Rattle.ir_names.specs.declared.interfaces.OpInterface.TheVariants as interface
use Rattle.ir_names.specs.declared.interfaces.TypeInterface.{TypeInterface}
use Rattle.ir_names.specs.declared.interfaces.TypeInterface.TheVariants.{FunctionType}
use Rattle.ir_names.specs.declared.interfaces.TypeTest.TheVariants.{Interface}
use Rattle.builtin_tables.specs.Listed.{lists_interface}
use Rattle.builtin_tables.specs.declared.dialect.SuccessorLayout.{SuccessorLayout}
use Rattle.builtin_tables.specs.declared.dialect.SuccessorLayout.TheVariants.{Trailing, Segments}
use Rattle.builtin_tables.specs.declared.dialect.CalleePlace.{CalleePlace}
use Rattle.builtin_tables.specs.declared.dialect.CalleePlace.TheVariants.{Attribute, Operand}
use Rattle.builtin_ifaces_tests.specs.declared.tiny.TinyAttr.{TinyAttr}
use Rattle.builtin_ifaces_tests.specs.declared.tiny.TinyAttr.TheVariants as attrs
use Rattle.builtin_ifaces_tests.specs.declared.tiny.TinyAttrKind.{TinyAttrKind}
use Rattle.builtin_ifaces_tests.specs.declared.tiny.TinyAttrKind.TheVariants as attr_kinds
use Rattle.builtin_ifaces_tests.specs.declared.tiny.TinyOp.{TinyOp}
use Rattle.builtin_ifaces_tests.specs.declared.tiny.TinyOp.TheVariants as ops
use Rattle.builtin_ifaces_tests.specs.declared.tiny.TinyType.{TinyType}
use Rattle.builtin_ifaces_tests.specs.declared.tiny.TinyType.TheVariants as types
use Rattle.builtin_ifaces_tests.specs.declared.tiny.TinyTypeKind.{TinyTypeKind}
use Rattle.builtin_ifaces_tests.specs.declared.tiny.TinyTypeKind.TheVariants as type_kinds

-- what kinds are called: those of one sort have names of different lengths
abbrev pub op_name : TinyOp → List ℕ
op_name ops.Def = codes "def"
op_name ops.Func = codes "func"
op_name ops.Invoke = codes "invoke"
op_name ops.Apply = codes "apply"
op_name ops.Go = codes "go"
op_name ops.CondGo = codes "cond_go"

abbrev pub type_name : TinyTypeKind → List ℕ
type_name type_kinds.Integer = codes "integer"
type_name type_kinds.Function = codes "function"

abbrev pub attr_name : TinyAttrKind → List ℕ
attr_name attr_kinds.Name = codes "name"
attr_name attr_kinds.Held = codes "type_"
attr_name attr_kinds.Sizes = codes "sizes_"

abbrev pub op_names : TinyOp → List ℕ × List ℕ
op_names kind = (codes "tiny", op_name kind)

abbrev pub type_names : TinyTypeKind → List ℕ × List ℕ
type_names kind = (codes "tiny", type_name kind)

abbrev pub attr_names : TinyAttrKind → List ℕ × List ℕ
attr_names kind = (codes "tiny", attr_name kind)

abbrev pub type_kind : TinyType → TinyTypeKind
type_kind types.Integer = type_kinds.Integer
type_kind (types.Function takes gives) = type_kinds.Function

abbrev pub attr_kind : TinyAttr → TinyAttrKind
attr_kind (attrs.Name name) = attr_kinds.Name
attr_kind (attrs.Held ty) = attr_kinds.Held
attr_kind (attrs.Sizes sizes) = attr_kinds.Sizes

-- a type of a function implements the interface for these
abbrev pub kind_implements : TinyTypeKind → TypeInterface → Bool
kind_implements type_kinds.Function FunctionType = true
kind_implements k i = false

-- what attributes and types hold
abbrev pub held_identifier : TinyAttr → Option (List ℕ)
held_identifier (attrs.Name name) = Some (text_of name)
held_identifier a = None

abbrev pub held_type : TinyAttr → Option TypeHandle
held_type (attrs.Held ty) = Some ty
held_type a = None

abbrev pub held_sizes : TinyAttr → Option (List ℕ)
held_sizes (attrs.Sizes sizes) = Some sizes.items
held_sizes a = None

abbrev pub signature : TinyType → Option (List TypeHandle × List TypeHandle)
signature types.Integer = None
signature (types.Function takes gives) = Some (takes ∷ [], gives ∷ [])

-- the interfaces of each kind
abbrev pub table : TinyOp → List OpInterface
table ops.Def = []
table ops.Func = interface.SymbolOp ∷ []
table ops.Invoke = interface.CallOp ∷ interface.SymbolUserOp ∷ []
table ops.Apply = interface.CallOp ∷ interface.OperandSegment ∷ interface.SegmentN 0 (Interface FunctionType) ∷ []
table ops.Go = interface.IsTerminator ∷ interface.Branch ∷ interface.OneSucc ∷ []
table ops.CondGo = interface.IsTerminator ∷ interface.Branch ∷ interface.NSuccs 2 ∷ interface.OperandSegment ∷ []

abbrev pub op_has : TinyOp → OpInterface → Bool
op_has kind i = lists_interface (table kind) i

-- how many segments the operands of each kind are in
abbrev pub segment_count : TinyOp → ℕ
segment_count ops.Apply = 2
segment_count ops.CondGo = 3
segment_count k = 0

-- what each kind forwards
abbrev pub layout : TinyOp → SuccessorLayout
layout ops.CondGo = Segments 1
layout k = Trailing 0

-- where each kind has what it calls, and its first argument
abbrev pub callee_place : TinyOp → CalleePlace
callee_place ops.Apply = Operand 0
callee_place k = Attribute

abbrev pub first_argument : TinyOp → ℕ
first_argument ops.Apply = 1
first_argument k = 0
