-- Which kinds of `kit` can be read, in the order of their numbers, and what follows the dotted name of each: its form.
use Rattle.std.specs.Prelude.{ℕ, suc, List, [], ◌∷◌, map, codes, Option, Some, None}
use Rattle.ir_print.specs.Formats.{Formats, Kind, Step, Steps, no_steps, steps, word, operand, operands, successor, a_value, a_region, symbol_name, a_leaf, list_of, choice_of, no_choice, a_choice}
use Rattle.text_dialect.specs.Ids.{dotted}
use Rattle.kit_ops.specs.declared.kinds.KitOp.{KitOp}
use Rattle.kit_ops.specs.declared.kinds.KitOp.TheVariants as ops
use Rattle.kit_ops.specs.declared.types.KitTypeKind.{KitTypeKind}
use Rattle.kit_ops.specs.declared.types.KitTypeKind.TheVariants as type_kinds
use Rattle.kit_ops.specs.declared.attributes.KitAttrKind.{KitAttrKind}
use Rattle.kit_ops.specs.declared.attributes.KitAttrKind.TheVariants as attr_kinds
use Rattle.kit_ops.specs.Arithmetic.{operators, arithmetic_number, comparison_number}
use Rattle.ir_print.specs.declared.format.LeafSort.TheVariants as leaves
use Rattle.ir_print.specs.declared.format.ValueSort.TheVariants as sorts
use Rattle.kit_ops.specs.Kinds.{op_names, type_names, attr_names}

-- what follows the dotted name of an operation
pub data OpForm : Type 0 where
  -- a symbol and a region; a symbol, a type and a region
  NamedRegion TypedRegion : OpForm
  -- an attribute
  Value : OpForm
  -- two operands and the type of the result; one operand; any number of them
  TwoOperands OneOperand AnyOperands : OpForm
  -- nothing
  Empty : OpForm
  -- the name of a function, any number of operands in brackets, and the type of the function
  Called : OpForm
  -- an edge; an operand and two edges
  Edge ConditionEdges : OpForm

-- the form of a kind that can be read
abbrev pub form_of : KitOp → Option OpForm
form_of ops.Module = Some NamedRegion
form_of ops.Func = Some TypedRegion
form_of ops.Constant = Some Value
form_of (ops.Arithmetic a) = Some TwoOperands
form_of (ops.Comparison c) = Some TwoOperands
form_of ops.Emit = Some OneOperand
form_of ops.Return = Some AnyOperands
form_of ops.ForwardRef = Some Empty
form_of ops.Call = Some Called
form_of ops.Br = Some Edge
form_of ops.CondBr = Some ConditionEdges

-- the kinds of operations that can be read, by number
abbrev pub read_ops : List KitOp
read_ops = ops.Module ∷ ops.Func ∷ ops.Constant ∷ ops.Return ∷ ops.Emit ∷ ops.ForwardRef ∷ ops.Call ∷ ops.Br ∷ ops.CondBr ∷ operators

-- the number of a kind that can be read
abbrev pub number_of : KitOp → Option ℕ
number_of ops.Module = Some 0
number_of ops.Func = Some 1
number_of ops.Constant = Some 2
number_of ops.Return = Some 3
number_of ops.Emit = Some 4
number_of ops.ForwardRef = Some 5
number_of ops.Call = Some 6
number_of ops.Br = Some 7
number_of ops.CondBr = Some 8
number_of (ops.Arithmetic a) = Some (suc (suc (suc (suc (suc (suc (suc (suc (suc (arithmetic_number a))))))))))
number_of (ops.Comparison c) = Some (suc (suc (suc (suc (suc (suc (suc (suc (suc (comparison_number c))))))))))

-- the kinds of types that can be read, by number
abbrev pub read_types : List KitTypeKind
read_types = type_kinds.Integer ∷ type_kinds.Function ∷ type_kinds.Unit ∷ []

-- the kinds of attributes that can be read, by number
abbrev pub read_attrs : List KitAttrKind
read_attrs = attr_kinds.Integer ∷ attr_kinds.Identifier ∷ attr_kinds.«Type» ∷ attr_kinds.SegmentSizes ∷ attr_kinds.GivenNames ∷ attr_kinds.Note ∷ attr_kinds.Origin ∷ []

-- ---- formats

-- the steps of a form
abbrev pub steps_in : OpForm → Steps
steps_in NamedRegion = steps (symbol_name ∷ a_region ∷ [])
steps_in TypedRegion = steps (symbol_name ∷ word (codes ": ") (codes ":") ∷ (a_value sorts.«Type») ∷ a_region ∷ [])
steps_in Value = steps ((a_value sorts.Attribute) ∷ [])
steps_in TwoOperands = steps (operand ∷ word (codes ", ") (codes ",") ∷ operand ∷ word (codes ": ") (codes ":") ∷ (a_value sorts.«Type») ∷ [])
steps_in OneOperand = steps (operand ∷ [])
steps_in AnyOperands = steps (operands ∷ [])
steps_in Empty = steps []
steps_in Called = steps
    (symbol_name ∷ word (codes "(") (codes "(") ∷ operands ∷ word (codes ")") (codes ")") ∷ word (codes ": ") (codes ":") ∷ (a_value sorts.«Type») ∷ [])
steps_in Edge = steps (successor ∷ [])
steps_in ConditionEdges = steps (operand ∷ word (codes ", ") (codes ",") ∷ successor ∷ word (codes ", ") (codes ",") ∷ successor ∷ [])

-- the steps of a kind; none of one that can't be read
abbrev pub steps_of_form : Option OpForm → Steps
steps_of_form None = no_steps
steps_of_form (Some form) = steps_in form

-- types with commas between them
abbrev pub type_list : Step
type_list = list_of (steps ((a_value sorts.«Type») ∷ [])) (codes ", ") (codes ",")

-- what follows the dotted name of a kind of types
abbrev pub steps_of_type : KitTypeKind → Steps
steps_of_type type_kinds.Integer = steps ((a_leaf leaves.Width) ∷ [])
steps_of_type type_kinds.Function = steps
    (word (codes "<") (codes "<") ∷ word (codes "(") (codes "(") ∷ type_list ∷ word (codes ")") (codes ")") ∷ word (codes "->") (codes "->")
    ∷ word (codes "(") (codes "(") ∷ type_list ∷ word (codes ")") (codes ")") ∷ word (codes ">") (codes ">") ∷ [])
steps_of_type type_kinds.Unit = steps []

-- numbers with commas between them
abbrev pub number_list : Step
number_list = list_of (steps ((a_leaf leaves.Digits) ∷ [])) (codes ", ") (codes ",")

-- a name, or `?` where there is none
abbrev pub name_or_none : Step
name_or_none = choice_of (a_choice (steps ((a_leaf leaves.Name) ∷ [])) (a_choice (steps (word (codes "?") (codes "?") ∷ [])) no_choice))

-- these with commas between them
abbrev pub name_list : Step
name_list = list_of (steps (name_or_none ∷ [])) (codes ", ") (codes ",")

-- what follows the dotted name of a kind of attributes
abbrev pub steps_of_attr : KitAttrKind → Steps
steps_of_attr attr_kinds.Integer = steps (word (codes "<") (codes "<") ∷ (a_leaf leaves.Number) ∷ word (codes ": ") (codes ":") ∷ (a_leaf leaves.Width) ∷ word (codes ">") (codes ">") ∷ [])
steps_of_attr attr_kinds.Identifier = steps ((a_leaf leaves.Name) ∷ [])
steps_of_attr attr_kinds.«Type» = steps ((a_value sorts.«Type») ∷ [])
steps_of_attr attr_kinds.SegmentSizes = steps (word (codes "[") (codes "[") ∷ number_list ∷ word (codes "]") (codes "]") ∷ [])
steps_of_attr attr_kinds.GivenNames = steps (word (codes "[") (codes "[") ∷ name_list ∷ word (codes "]") (codes "]") ∷ [])
steps_of_attr attr_kinds.Note = steps ((a_leaf leaves.Text) ∷ [])
steps_of_attr attr_kinds.Origin = steps ((a_leaf leaves.Text) ∷ [])

-- each kind, with its dotted name
abbrev pub op_kind : KitOp → Kind
op_kind kind = record { id = dotted (op_names kind); format = steps_of_form (form_of kind) }

abbrev pub type_form : KitTypeKind → Kind
type_form kind = record { id = dotted (type_names kind); format = steps_of_type kind }

abbrev pub attr_form : KitAttrKind → Kind
attr_form kind = record { id = dotted (attr_names kind); format = steps_of_attr kind }

-- the kinds that can be read, by their numbers
abbrev pub formats : Formats
formats = record { operations = map op_kind read_ops; types = map type_form read_types; attributes = map attr_form read_attrs }
