-- What types, attributes and kinds of operations are called, and what they implement.
use Rattle.std.specs.Prelude.{ℕ, Bool, true, false, List, codes, map, Option, Some, None, option_map}
use Rattle.ir_base.specs.declared.types.TypeHandle.{TypeHandle}
use Rattle.ir_names.specs.declared.interfaces.AttrInterface.{AttrInterface}
use Rattle.ir_names.specs.declared.interfaces.AttrInterface.TheVariants as attr
use Rattle.ir_names.specs.declared.interfaces.TypeInterface.{TypeInterface}
use Rattle.ir_names.specs.declared.interfaces.TypeInterface.TheVariants as type
use Rattle.ir_names.specs.declared.interfaces.RegionKind.{RegionKind}
use Rattle.ir_names.specs.declared.interfaces.RegionKind.TheVariants.{Graph, SSACFG}
use Rattle.ir_names.specs.Identifier.{text_of}
use Rattle.kit_ops.specs.declared.kinds.KitOp.{KitOp}
use Rattle.kit_ops.specs.declared.kinds.KitOp.TheVariants as ops
use Rattle.kit_ops.specs.declared.types.KitType.{KitType}
use Rattle.kit_ops.specs.declared.types.KitType.TheVariants as types
use Rattle.kit_ops.specs.declared.types.KitTypeKind.{KitTypeKind}
use Rattle.kit_ops.specs.declared.types.KitTypeKind.TheVariants as type_kinds
use Rattle.kit_ops.specs.declared.attributes.KitAttr.{KitAttr}
use Rattle.kit_ops.specs.declared.attributes.KitAttr.TheVariants as attrs
use Rattle.kit_ops.specs.declared.attributes.KitAttrKind.{KitAttrKind}
use Rattle.kit_ops.specs.declared.attributes.KitAttrKind.TheVariants as attr_kinds
use Rattle.kit_ops.specs.Table.{row_of}

-- the names of the dialect and of the kind, as the table says them
abbrev pub op_names : KitOp → List ℕ × List ℕ
op_names kind = ((row_of kind).dialect, (row_of kind).name)

-- the names of the kinds of types, all of the dialect `builtin`
abbrev pub type_name : KitTypeKind → List ℕ
type_name type_kinds.Integer = codes "integer"
type_name type_kinds.Function = codes "function"
type_name type_kinds.Unit = codes "unit"

-- the names of the dialect and of the kind, of a kind of types
abbrev pub type_names : KitTypeKind → List ℕ × List ℕ
type_names kind = (codes "builtin", type_name kind)

-- the names of the dialect and of the kind, of a kind of attributes
abbrev pub attr_names : KitAttrKind → List ℕ × List ℕ
attr_names attr_kinds.Integer = (codes "builtin", codes "integer")
attr_names attr_kinds.Identifier = (codes "builtin", codes "identifier")
attr_names attr_kinds.«Type» = (codes "builtin", codes "type")
attr_names attr_kinds.SegmentSizes = (codes "builtin", codes "operand_segment_sizes")
attr_names attr_kinds.GivenNames = (codes "builtin", codes "given_names")
attr_names attr_kinds.Note = (codes "kit", codes "note")
attr_names attr_kinds.Origin = (codes "kit", codes "origin")

-- the kind of a type
abbrev pub type_kind : KitType → KitTypeKind
type_kind (types.Integer t) = type_kinds.Integer
type_kind (types.Function t) = type_kinds.Function
type_kind types.Unit = type_kinds.Unit

-- the kind of an attribute
abbrev pub attr_kind : KitAttr → KitAttrKind
attr_kind (attrs.Integer a) = attr_kinds.Integer
attr_kind (attrs.Identifier a) = attr_kinds.Identifier
attr_kind (attrs.«Type» t) = attr_kinds.«Type»
attr_kind (attrs.SegmentSizes a) = attr_kinds.SegmentSizes
attr_kind (attrs.GivenNames a) = attr_kinds.GivenNames
attr_kind (attrs.Note a) = attr_kinds.Note
attr_kind (attrs.Origin a) = attr_kinds.Origin

-- the type that an attribute says it has: only an integer has one
abbrev pub attr_type : KitAttr → Option TypeHandle
attr_type (attrs.Integer a) = Some a.ty
attr_type _ = None

-- whether types of the kind implement the interface: function types have arguments and results
abbrev pub type_implements : KitTypeKind → TypeInterface → Bool
type_implements type_kinds.Function type.FunctionType = true
type_implements _ _ = false

-- whether attributes of the kind implement the interface: an integer has a type, and there are constants of it;
-- notes and origins are printed behind the text, and an origin once
abbrev pub attr_implements : KitAttrKind → AttrInterface → Bool
attr_implements attr_kinds.Integer attr.TypedAttr = true
attr_implements attr_kinds.Integer attr.MaterializableAttr = true
attr_implements attr_kinds.Note attr.OutlinedAttr = true
attr_implements attr_kinds.Origin attr.OutlinedAttr = true
attr_implements attr_kinds.Origin attr.PrintOnceAttr = true
attr_implements _ _ = false

-- a module's region is a graph; in every other region what comes first runs first
abbrev pub region_order : KitOp → RegionKind
region_order ops.Module = Graph
region_order _ = SSACFG

-- the names that an attribute holds, if it holds names
abbrev pub held_names : KitAttr → Option (List (Option (List ℕ)))
held_names (attrs.GivenNames names) = Some (map (option_map text_of) names.items)
held_names _ = None
