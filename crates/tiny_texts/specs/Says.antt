-- What the type, attributes and operations say, and which pieces are refused.
use Rattle.std.specs.Prelude.{ℕ, zero, suc, ◌^◌, ◌==◌, ◌&&◌, nat_lt, Bool, true, false, List, [], ◌∷◌, length, Option, Some, None, option_map, slice_get, codes}
use Rattle.ir_names.specs.Dictionary.{attribute_at}
use Rattle.ir_names.specs.Tree.{LabelledTree, Trees, node, no_tree, a_tree, label_of}
use Rattle.ir_print.specs.Pieces.{Piece, value_of_kind, operands, successor, region, Leaf, leaf, unsigned, mark, ValueTree, Pieces, Values}
use Rattle.ir_print.specs.declared.format.ValueSort.TheVariants as sorts
use Rattle.ir_print.specs.Shown.{Said, said_attribute, said_operands, said_successor, said_region, said_leaf, alone, Saying}
use Rattle.tiny_texts.specs.declared.dialect.Int.{Int}
use Rattle.tiny_texts.specs.declared.dialect.TinyAttr.{TinyAttr}
use Rattle.tiny_texts.specs.declared.dialect.TinyAttr.TheVariants as attrs
use Rattle.tiny_texts.specs.declared.dialect.Constant.{Constant}
use Rattle.tiny_texts.specs.declared.dialect.Constant.TheVariants as constants
use Rattle.tiny_texts.specs.declared.dialect.TinyOp.{TinyOp}
use Rattle.tiny_texts.specs.declared.dialect.TinyOp.TheVariants as ops
use Rattle.tiny_texts.specs.declared.operations.Form.{Form}
use Rattle.tiny_texts.specs.declared.operations.Form.TheVariants as forms
use Rattle.tiny_texts.specs.Forms.{form_of, number_of, read_ops, attr_number, read_attrs}
use Rattle.tiny_texts.specs.Kinds.{kind_of}

-- ---- what is in a context

-- one tree
abbrev pub one : {L : Type 0} → LabelledTree L → Trees L
one t = a_tree t no_tree

-- what is said, where this holds
abbrev pub only : {X : Type 0} → Bool → Option X → Option X
only true said = said
only false said = None

-- the key of the attribute that an operation holds
abbrev pub value_key : List ℕ
value_key = codes "t_value"

-- the type says nothing beside its name
abbrev pub said_of_type : Int → Option (ℕ × Trees (Said Constant))
said_of_type key = Some (0, no_tree)

-- the number of an attribute
abbrev pub magnitude : Constant → ℕ
magnitude (constants.Num n) = n
magnitude (constants.Ref n) = n

-- what an attribute is written as: a number as one without a sign, and a mark
abbrev pub leaf_of : Constant → Leaf
leaf_of (constants.Num n) = unsigned n
leaf_of (constants.Ref n) = mark n

-- an attribute of at most 64 bits says itself
abbrev pub said_of_attribute : Constant → Option (ℕ × Trees (Said Constant))
said_of_attribute a = only (nat_lt (magnitude a) (2 ^ 64)) (Some (attr_number (kind_of a), one (alone (said_leaf (leaf_of a)))))

-- what an operation with this attribute says: the attribute
abbrev pub said_of_value : Option Constant → Option (Trees (Said Constant))
said_of_value (Some a) = Some (one (alone (said_attribute a)))
said_of_value None = None

-- An operation of a form says its own attribute and its operands, if it has no others.
abbrev pub said_in : Form → (entries : List (List ℕ × Constant)) → (operands : ℕ) → Option (Trees (Said Constant))
said_in forms.Region entries n = only (length entries == 0 && n == 0) (Some (one (alone said_region)))
said_in forms.Value entries n = only (length entries == 1 && n == 0) (said_of_value (attribute_at entries value_key))
said_in forms.Operand entries n = only (length entries == 0 && n == 1) (Some (one (alone (said_operands 1))))
said_in forms.Edge entries n = only (length entries == 0) (Some (one (alone (said_successor n))))
said_in forms.Nothing entries n = only (length entries == 0 && n == 0) (Some no_tree)

-- the same with a number
abbrev pub numbered : ℕ → Option (Trees (Said Constant)) → Option (ℕ × Trees (Said Constant))
numbered k said = option_map {U = ℕ × Trees (Said Constant)} (λ us. (k, us)) said

-- what the type, attributes and operations say
abbrev pub says : Saying TinyOp Constant Int
says = record {
  of_type = said_of_type;
  of_attribute = said_of_attribute;
  of_operation = λ kind entries n tys. numbered (number_of kind) (said_in (form_of kind) entries n);
}

-- ---- what is read

-- None where this holds, or the first piece
abbrev pub refused_unless : Bool → Option ℕ
refused_unless true = None
refused_unless false = Some 0

-- the dialect has such pieces: attributes, operands, edges, regions, and numbers and marks of at most 64 bits
abbrev pub is_used : Piece → Bool
is_used (value_of_kind sorts.Attribute k) = true
is_used (operands n) = true
is_used (successor n) = true
is_used region = true
is_used (leaf (unsigned n)) = nat_lt n (2 ^ 64)
is_used (leaf (mark n)) = nat_lt n (2 ^ 64)
is_used p = false

-- the piece, if the dialect has such pieces
abbrev pub used : Piece → Option Piece
used p = only (is_used p) (Some p)

-- the one piece that there is
abbrev pub one_piece : Pieces → Option Piece
one_piece (a_tree t no_tree) = used (label_of t)
one_piece ts = None

-- there is no piece
abbrev pub are_none : Pieces → Bool
are_none no_tree = true
are_none ts = false

-- the piece is that of a form
abbrev pub is_of : Form → Option Piece → Bool
is_of forms.Region (Some region) = true
is_of forms.Value (Some (value_of_kind sorts.Attribute k)) = true
is_of forms.Operand (Some (operands n)) = n == 1
is_of forms.Edge (Some (successor n)) = true
is_of form p = false

-- the number that a piece is, as an attribute of a kind is written
abbrev pub number_in : TinyAttr → Option Piece → Option ℕ
number_in attrs.Num (Some (leaf (unsigned n))) = Some n
number_in attrs.Ref (Some (leaf (mark n))) = Some n
number_in kind p = None

-- a piece is a number
abbrev pub is_number : Option ℕ → Bool
is_number (Some n) = true
is_number None = false

-- pieces are those of a form
abbrev pub fits : Form → Pieces → Bool
fits forms.Nothing ps = are_none ps
fits form ps = is_of form (one_piece ps)

-- the type is read of nothing
abbrev pub refused_type : ℕ → Pieces → Option ℕ
refused_type zero ps = refused_unless (are_none ps)
refused_type (suc n) ps = Some 0

-- an attribute of a number, as its kind is written
abbrev pub refused_as : Option TinyAttr → Pieces → Option ℕ
refused_as (Some kind) ps = refused_unless (is_number (number_in kind (one_piece ps)))
refused_as None ps = Some 0

abbrev pub refused_attribute : ℕ → Pieces → Option ℕ
refused_attribute n ps = refused_as (slice_get read_attrs n) ps

-- an operation of what its form says
abbrev pub refused_by : Option TinyOp → Pieces → Option ℕ
refused_by (Some kind) ps = refused_unless (fits (form_of kind) ps)
refused_by None ps = Some 0

abbrev pub refused_operation : ℕ → Pieces → Option ℕ
refused_operation n ps = refused_by (slice_get read_ops n) ps

-- the one type
abbrev pub int : ValueTree
int = node (value_of_kind sorts.«Type» 0) no_tree

-- the types of the results of a kind: that one of what makes a value
abbrev pub types_in : TinyOp → List ValueTree
types_in ops.Def = int ∷ []
types_in ops.Id = int ∷ []
types_in kind = []

abbrev pub types_by : Option TinyOp → List ValueTree
types_by (Some kind) = types_in kind
types_by None = []

abbrev pub result_types : ℕ → Pieces → List ValueTree
result_types n ps = types_by (slice_get read_ops n)

-- what is made of pieces, and what is refused
abbrev pub values : Values
values = record {
  refused_type = refused_type;
  refused_attribute = refused_attribute;
  refused_operation = refused_operation;
  canonical = λ n ps. ps;
  result_types = result_types;
}
