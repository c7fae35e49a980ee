-- What follows the names of kinds, and which kind has which number.
use Rattle.std.specs.Prelude.{ℕ, List, [], ◌∷◌, map}
use Rattle.ir_print.specs.Formats.{Formats, Kind, Steps, steps, operand, successor, a_value, a_region, a_leaf}
use Rattle.ir_print.specs.declared.format.LeafSort.{LeafSort}
use Rattle.ir_print.specs.declared.format.LeafSort.TheVariants as leaves
use Rattle.ir_print.specs.declared.format.ValueSort.TheVariants as sorts
use Rattle.text_dialect.specs.Ids.{dotted}
use Rattle.tiny_texts.specs.declared.dialect.Single.{Single}
use Rattle.tiny_texts.specs.declared.dialect.TinyAttr.{TinyAttr}
use Rattle.tiny_texts.specs.declared.dialect.TinyAttr.TheVariants as attrs
use Rattle.tiny_texts.specs.declared.dialect.TinyOp.{TinyOp}
use Rattle.tiny_texts.specs.declared.dialect.TinyOp.TheVariants as ops
use Rattle.tiny_texts.specs.declared.operations.Form.{Form}
use Rattle.tiny_texts.specs.declared.operations.Form.TheVariants as forms
use Rattle.tiny_texts.specs.Kinds.{op_names, type_names, attr_names}

-- the form of a kind of operations
abbrev pub form_of : TinyOp → Form
form_of ops.Box = forms.Region
form_of ops.Loop = forms.Region
form_of ops.Pure = forms.Region
form_of ops.Def = forms.Value
form_of ops.Id = forms.Operand
form_of ops.Use = forms.Operand
form_of ops.Br = forms.Edge
form_of ops.Ret = forms.Nothing

-- the kinds of operations by number
abbrev pub read_ops : List TinyOp
read_ops = ops.Box ∷ ops.Loop ∷ ops.Pure ∷ ops.Def ∷ ops.Id ∷ ops.Use ∷ ops.Br ∷ ops.Ret ∷ []

-- the number of a kind
abbrev pub number_of : TinyOp → ℕ
number_of ops.Box = 0
number_of ops.Loop = 1
number_of ops.Pure = 2
number_of ops.Def = 3
number_of ops.Id = 4
number_of ops.Use = 5
number_of ops.Br = 6
number_of ops.Ret = 7

-- the one kind of types
abbrev pub read_single : List Single
read_single = record {} ∷ []

-- the kinds of attributes by number
abbrev pub read_attrs : List TinyAttr
read_attrs = attrs.Num ∷ attrs.Ref ∷ []

-- the number of a kind of attributes
abbrev pub attr_number : TinyAttr → ℕ
attr_number attrs.Num = 0
attr_number attrs.Ref = 1

-- what an attribute of a kind is written as
abbrev pub sort_of_kind : TinyAttr → LeafSort
sort_of_kind attrs.Num = leaves.Digits
sort_of_kind attrs.Ref = leaves.Mark

-- the steps of a form
abbrev pub steps_in : Form → Steps
steps_in forms.Region = steps (a_region ∷ [])
steps_in forms.Value = steps (a_value sorts.Attribute ∷ [])
steps_in forms.Operand = steps (operand ∷ [])
steps_in forms.Edge = steps (successor ∷ [])
steps_in forms.Nothing = steps []

-- each kind, with its dotted name
abbrev pub op_kind : TinyOp → Kind
op_kind kind = record { id = dotted (op_names kind); format = steps_in (form_of kind) }

abbrev pub type_form : Single → Kind
type_form kind = record { id = dotted (type_names kind); format = steps [] }

abbrev pub attr_form : TinyAttr → Kind
attr_form kind = record { id = dotted (attr_names kind); format = steps (a_leaf (sort_of_kind kind) ∷ []) }

-- the kinds by their numbers
abbrev pub formats : Formats
formats = record { operations = map op_kind read_ops; types = map type_form read_single; attributes = map attr_form read_attrs }
