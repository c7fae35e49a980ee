-- What parts that were read are, and the parts that are printed.
use Rattle.std.specs.Prelude.{ℕ, Bool, true, false, List, [], ◌∷◌, Option, Some, None, option_and_then}
use Rattle.ir_names.specs.Dictionary.{with_attribute}
use Rattle.ir_print.specs.declared.format.Part.{Part}
use Rattle.ir_print.specs.declared.format.Part.TheVariants as parts
use Rattle.ir_print.specs.declared.format.LeafValue.{LeafValue}
use Rattle.ir_print.specs.declared.format.LeafValue.TheVariants as read
use Rattle.ir_print.specs.declared.format.ValueSort.TheVariants as sorts
use Rattle.ir_print.specs.Pieces.{Piece, value_of_kind, operands, successor, region, leaf, unsigned, mark}
use Rattle.tiny_texts.specs.declared.dialect.Int.{Int}
use Rattle.tiny_texts.specs.declared.dialect.TinyAttr.{TinyAttr}
use Rattle.tiny_texts.specs.declared.dialect.TinyAttr.TheVariants as attrs
use Rattle.tiny_texts.specs.declared.dialect.Constant.{Constant}
use Rattle.tiny_texts.specs.declared.dialect.Constant.TheVariants as constants
use Rattle.tiny_texts.specs.declared.dialect.TinyOp.{TinyOp}
use Rattle.tiny_texts.specs.declared.operations.Form.{Form}
use Rattle.tiny_texts.specs.declared.operations.Form.TheVariants as forms
use Rattle.tiny_texts.specs.Forms.{attr_number}
use Rattle.tiny_texts.specs.Kinds.{kind_of}
use Rattle.tiny_texts.specs.Says.{is_of, used, value_key}

-- the attribute of a kind with a number
abbrev pub constant_of : TinyAttr → ℕ → Constant
constant_of attrs.Num n = constants.Num n
constant_of attrs.Ref n = constants.Ref n

-- the piece that a leaf shows, if the dialect has such pieces
abbrev pub piece_of_leaf : LeafValue → Option Piece
piece_of_leaf (read.Digits o) = option_and_then (λ n. used (leaf (unsigned n))) o
piece_of_leaf (read.Mark o) = option_and_then (λ n. used (leaf (mark n))) o
piece_of_leaf other = None

-- the attributes with this one, if there is one
abbrev pub entries_of : Option Constant → List (List ℕ × Constant)
entries_of (Some value) = with_attribute [] value_key value
entries_of None = []

module _ {D : Type 0} where
  -- the piece that a part shows, if the dialect has such pieces
  abbrev pub piece_of : Part D TinyOp Constant Int → Option Piece
  piece_of (parts.Operands n) = Some (operands n)
  piece_of (parts.Successor n) = Some (successor n)
  piece_of (parts.Attribute a) = Some (value_of_kind sorts.Attribute (attr_number (kind_of a)))
  piece_of (parts.Type t) = None
  piece_of parts.Region = Some region
  piece_of (parts.Leaf v) = piece_of_leaf v
  piece_of other = None

  -- the piece that the one part shows
  abbrev pub one_part : List (Part D TinyOp Constant Int) → Option Piece
  one_part (p ∷ []) = piece_of p
  one_part ps = None

  -- the attribute that a part is
  abbrev pub value_part : Part D TinyOp Constant Int → Option Constant
  value_part (parts.Operands n) = None
  value_part (parts.Successor n) = None
  value_part (parts.Attribute a) = Some a
  value_part (parts.Type t) = None
  value_part parts.Region = None
  value_part (parts.Leaf v) = None
  value_part other = None

  abbrev pub value_in : List (Part D TinyOp Constant Int) → Option Constant
  value_in (p ∷ []) = value_part p
  value_in ps = None

  -- there is no part
  abbrev pub no_parts : List (Part D TinyOp Constant Int) → Bool
  no_parts [] = true
  no_parts ps = false

  -- parts are those of a form
  abbrev pub parts_fit : Form → List (Part D TinyOp Constant Int) → Bool
  parts_fit forms.Nothing ps = no_parts ps
  parts_fit form ps = is_of form (one_part ps)

  -- the parts of an operation of a form with this attribute, if it has one, and so many operands
  abbrev pub parts_of : Form → Option Constant → ℕ → List (Part D TinyOp Constant Int)
  parts_of forms.Region value n = parts.Region ∷ []
  parts_of forms.Value (Some value) n = parts.Attribute value ∷ []
  parts_of forms.Operand value n = parts.Operands n ∷ []
  parts_of forms.Edge value n = parts.Successor n ∷ []
  parts_of form value n = []
