-- What the types, attributes and operations of `kit` say, and which pieces are refused.
use Rattle.std.specs.Prelude.{ℕ, zero, suc, ◌+◌, ◌*◌, ◌^◌, ◌==◌, ◌&&◌, nat_le, nat_lt, Bool, true, false, List, [], ◌∷◌, length, Option, Some, None, option_map, option_and_then, map, cond, slice_get, chars, string_bytes}
use Rattle.ir_base.specs.declared.types.TypeHandle.{TypeHandle}
use Rattle.ir_names.specs.declared.kinds.Signedness.{Signedness}
use Rattle.ir_names.specs.Dictionary.{attribute_at}
use Rattle.ir_names.specs.Identifier.{text_of}
use Rattle.ir_names.specs.Tree.{LabelledTree, Trees, node, no_tree, a_tree, label_of, below}
use Rattle.ir_print.specs.declared.format.Number.{Number}
use Rattle.ir_print.specs.Pieces.{Piece, value_of_kind, list, item, chosen, operands, successor, region, leaf, name, number, unsigned, width, quoted, ValueTree, Pieces, Values}
use Rattle.ir_print.specs.Shown.{Said, said_type, said_attribute, said_list, said_item, said_choice, said_operands, said_successor, said_region, said_leaf, alone, Saying}
use Rattle.kit_ops.specs.declared.kinds.KitOp.{KitOp}
use Rattle.kit_ops.specs.Keys.{symbol_name, function_type, constant_value, callee, callee_type, segment_sizes}
use Rattle.kit.specs.Forms.{OpForm, NamedRegion, TypedRegion, Value, TwoOperands, OneOperand, AnyOperands, Empty, Called, Edge, ConditionEdges, form_of, number_of, read_ops}
use Rattle.kit_ops.specs.declared.types.KitType.{KitType}
use Rattle.kit_ops.specs.declared.types.KitType.TheVariants as types
use Rattle.kit_ops.specs.declared.attributes.KitAttr.{KitAttr}
use Rattle.kit_ops.specs.declared.attributes.KitAttr.TheVariants as attrs
use Rattle.ir_print.specs.declared.format.ValueSort.TheVariants as sorts
use Rattle.kit.specs.Numbers.{number_of_bits, number_modulo, printed_number}

-- ---- what is in a context

-- one tree
abbrev pub one : {L : Type 0} → LabelledTree L → Trees L
one t = a_tree t no_tree

-- two trees
abbrev pub two : {L : Type 0} → LabelledTree L → LabelledTree L → Trees L
two t u = a_tree t (one u)

-- what is said, where this holds
abbrev pub only : {X : Type 0} → Bool → Option X → Option X
only true said = said
only false said = None

-- the types of a list, a member each
abbrev pub types_said : List TypeHandle → Trees (Said KitAttr)
types_said [] = no_tree
types_said (ty ∷ tys) = a_tree (node said_item (one (alone (said_type ty)))) (types_said tys)

-- an integer type says its width, which has less than 2^32 bits, a function type its inputs and its results, and the unit type nothing
abbrev pub said_of_type : KitType → Option (ℕ × Trees (Said KitAttr))
said_of_type (types.Integer t) = only (nat_lt t.width (2 ^ 32)) (Some (0, one (alone (said_leaf (width t.signedness t.width)))))
said_of_type (types.Function f) = Some (1, two (node said_list (types_said f.inputs.items)) (node said_list (types_said f.results.items)))
said_of_type types.Unit = Some (2, no_tree)

-- numbers of so many bits have values
abbrev pub has_values : ℕ → Bool
has_values w = nat_le 1 w && nat_le w 64

-- the pieces of a number of a type
abbrev pub integer_said : Signedness → ℕ → Number → Trees (Said KitAttr)
integer_said s w n = two (alone (said_leaf (number n.is_negative n.magnitude))) (alone (said_leaf (width s w)))

-- what is in a list, a member each
abbrev pub members_said : {X : Type 0} → (X → LabelledTree (Said KitAttr)) → List X → Trees (Said KitAttr)
members_said say [] = no_tree
members_said say (x ∷ xs) = a_tree (node said_item (one (say x))) (members_said say xs)

-- a number without a sign
abbrev pub size_said : ℕ → LabelledTree (Said KitAttr)
size_said n = alone (said_leaf (unsigned n))

-- a name, or that there is none
abbrev pub given_name_said : Option (List ℕ) → LabelledTree (Said KitAttr)
given_name_said (Some cs) = node (said_choice 0) (one (alone (said_leaf (name cs))))
given_name_said None = node (said_choice 1) no_tree

-- a text in quotes, of these bytes
abbrev pub text_said : List ℕ → Trees (Said KitAttr)
text_said bytes = one (alone (said_leaf (quoted (chars bytes))))

-- each number has at most 32 bits
abbrev pub are_sizes : List ℕ → Bool
are_sizes [] = true
are_sizes (n ∷ ns) = nat_lt n (2 ^ 32) && are_sizes ns

-- An integer with bits of its type says the number that is printed for them, and its width. Sizes say anything where all have at
-- most 32 bits.
abbrev pub said_of_attribute : KitAttr → Option (ℕ × Trees (Said KitAttr))
said_of_attribute (attrs.Integer a) = only (has_values a.integer.width && nat_lt a.bits (2 ^ a.integer.width)) (Some (0, integer_said a.integer.signedness a.integer.width (printed_number a)))
said_of_attribute (attrs.Identifier id) = Some (1, one (alone (said_leaf (name (text_of id)))))
said_of_attribute (attrs.«Type» ty) = Some (2, one (alone (said_type ty)))
said_of_attribute (attrs.SegmentSizes sizes) = only (are_sizes sizes.items) (Some (3, one (node said_list (members_said size_said sizes.items))))
said_of_attribute (attrs.GivenNames names) = Some (4, one (node said_list (members_said given_name_said (map (option_map text_of) names.items))))
said_of_attribute (attrs.Note text) = Some (5, text_said (string_bytes text))
said_of_attribute (attrs.Origin text) = Some (6, text_said (string_bytes text))

-- what a module says that has a name
abbrev pub said_of_module : Option KitAttr → Option (Trees (Said KitAttr))
said_of_module (Some (attrs.Identifier id)) = Some (two (alone (said_leaf (name (text_of id)))) (alone said_region))
said_of_module _ = None

-- what a function says that has a name and a type
abbrev pub said_of_function : Option KitAttr → Option KitAttr → Option (Trees (Said KitAttr))
said_of_function (Some (attrs.Identifier id)) (Some (attrs.«Type» ty)) =
    Some (a_tree (alone (said_leaf (name (text_of id)))) (two (alone (said_type ty)) (alone said_region)))
said_of_function _ _ = None

-- these are one type: the handles have one number
abbrev pub is_same_type : TypeHandle → TypeHandle → Bool
is_same_type x y = x.number == y.number

-- what a constant says that has a value and results of these types: the value, where there is one result, which has its type
abbrev pub said_of_constant : Option KitAttr → List TypeHandle → Option (Trees (Said KitAttr))
said_of_constant (Some (attrs.Integer a)) (ty ∷ []) = only (is_same_type a.ty ty) (Some (one (alone (said_attribute (attrs.Integer a)))))
said_of_constant _ _ = None

-- what an operation with two operands and one result of this type says
abbrev pub pair_said : TypeHandle → Trees (Said KitAttr)
pair_said ty = a_tree (alone (said_operands 1)) (two (alone (said_operands 1)) (alone (said_type ty)))

abbrev pub said_of_pair : List TypeHandle → Option (Trees (Said KitAttr))
said_of_pair (ty ∷ []) = Some (pair_said ty)
said_of_pair _ = None

-- what a call of a function with this name and this type says that has so many operands
abbrev pub call_said : List ℕ → TypeHandle → ℕ → Trees (Said KitAttr)
call_said cs ty n = a_tree (alone (said_leaf (name cs))) (two (alone (said_operands n)) (alone (said_type ty)))

-- the same of a call that has a name and a type
abbrev pub said_of_call : Option KitAttr → Option KitAttr → ℕ → Option (Trees (Said KitAttr))
said_of_call (Some (attrs.Identifier id)) (Some (attrs.«Type» ty)) n = Some (call_said (text_of id) ty n)
said_of_call _ _ n = None

-- what a conditional branch says whose edges hand on so many operands
abbrev pub condition_said : ℕ → ℕ → Trees (Said KitAttr)
condition_said a b = a_tree (alone (said_operands 1)) (two (alone (said_successor a)) (alone (said_successor b)))

-- the same of one with segments of these sizes and so many operands: there are three segments, the first of which has one
-- operand, and the operands are those of the segments
abbrev pub said_of_sizes : List ℕ → ℕ → Option (Trees (Said KitAttr))
said_of_sizes (c ∷ a ∷ b ∷ []) n = only (c == 1 && 1 + (a + b) == n) (Some (condition_said a b))
said_of_sizes _ n = None

abbrev pub said_of_condition : Option KitAttr → ℕ → Option (Trees (Said KitAttr))
said_of_condition (Some (attrs.SegmentSizes sizes)) n = said_of_sizes sizes.items n
said_of_condition _ n = None

-- An operation of a form says its own attributes and its operands, if it has no others. A constant says its value, which has
-- the type of its result, and an operation with two operands says the type of its result. The types of a call's results the
-- type of the function says. A conditional branch says the sizes of its segments by what its edges hand on.
abbrev pub said_in : OpForm → (entries : List (List ℕ × KitAttr)) → (operands : ℕ) → (results : List TypeHandle) → Option (Trees (Said KitAttr))
said_in NamedRegion entries n tys = only (length entries == 1 && n == 0) (said_of_module (attribute_at entries symbol_name))
said_in TypedRegion entries n tys =
    only (length entries == 2 && n == 0) (said_of_function (attribute_at entries symbol_name) (attribute_at entries function_type))
said_in Value entries n tys = only (length entries == 1 && n == 0) (said_of_constant (attribute_at entries constant_value) tys)
said_in TwoOperands entries n tys = only (length entries == 0 && n == 2) (said_of_pair tys)
said_in OneOperand entries n tys = only (length entries == 0 && n == 1) (Some (one (alone (said_operands 1))))
said_in AnyOperands entries n tys = only (length entries == 0) (Some (one (alone (said_operands n))))
said_in Empty entries n tys = only (length entries == 0 && n == 0) (Some no_tree)
said_in Called entries n tys = only (length entries == 2) (said_of_call (attribute_at entries callee) (attribute_at entries callee_type) n)
said_in Edge entries n tys = only (length entries == 0) (Some (one (alone (said_successor n))))
said_in ConditionEdges entries n tys = only (length entries == 1) (said_of_condition (attribute_at entries segment_sizes) n)

-- the same with the number of the kind, where there is a form and a number
abbrev pub numbered : Option OpForm → Option ℕ → (OpForm → Option (Trees (Said KitAttr))) → Option (ℕ × Trees (Said KitAttr))
numbered (Some form) (Some n) said = option_map {U = ℕ × Trees (Said KitAttr)} (λ us. (n, us)) (said form)
numbered _ _ said = None

-- what an operation says, with the number of its kind
abbrev pub said_of_operation : KitOp → (entries : List (List ℕ × KitAttr)) → (operands : ℕ) → (results : List TypeHandle) →
    Option (ℕ × Trees (Said KitAttr))
said_of_operation kind entries n tys = numbered (form_of kind) (number_of kind) (λ form. said_in form entries n tys)

-- what the types, attributes and operations of `kit` say
abbrev pub says : Saying KitOp KitAttr KitType
says = record { of_type = said_of_type; of_attribute = said_of_attribute; of_operation = said_of_operation }

-- ---- what is read

-- None where this holds, or the number of the piece that is refused
abbrev pub refused_unless : Bool → ℕ → Option ℕ
refused_unless true i = None
refused_unless false i = Some i

-- the piece is a width of less than 2^32 bits
abbrev pub is_small_width : ValueTree → Bool
is_small_width (node (leaf (width sign bits)) _) = nat_lt bits (2 ^ 32)
is_small_width _ = false

-- the piece is a type
abbrev pub is_type : ValueTree → Bool
is_type (node (value_of_kind sorts.«Type» n) _) = true
is_type _ = false

-- the piece is an integer
abbrev pub is_integer : ValueTree → Bool
is_integer (node (value_of_kind sorts.Attribute zero) _) = true
is_integer _ = false

-- the piece is a number of at most 32 bits
abbrev pub is_size : ValueTree → Bool
is_size (node (leaf (unsigned n)) _) = nat_lt n (2 ^ 32)
is_size _ = false

-- the piece is a text in quotes
abbrev pub is_text : ValueTree → Bool
is_text (node (leaf (quoted cs)) _) = true
is_text _ = false

-- the piece is a name
abbrev pub is_name : ValueTree → Bool
is_name (node (leaf (name cs)) _) = true
is_name _ = false

-- the piece is a region
abbrev pub is_region : ValueTree → Bool
is_region (node region _) = true
is_region _ = false

-- the piece is operands
abbrev pub are_operands : ValueTree → Bool
are_operands (node (operands n) _) = true
are_operands _ = false

-- the piece is one operand
abbrev pub is_operand : ValueTree → Bool
is_operand (node (operands n) _) = n == 1
is_operand _ = false

-- the piece is an edge
abbrev pub is_edge : ValueTree → Bool
is_edge (node (successor n) _) = true
is_edge _ = false

-- the pieces are one, of which this holds
abbrev pub is_one : (ValueTree → Bool) → Pieces → Bool
is_one test (a_tree t no_tree) = test t
is_one test _ = false

-- the piece is a member of a list, and is one type
abbrev pub is_type_member : ValueTree → Bool
is_type_member (node item ts) = is_one is_type ts
is_type_member _ = false

-- the members of a list are one type each
abbrev pub are_types : Pieces → Bool
are_types no_tree = true
are_types (a_tree t ts) = is_type_member t && are_types ts

-- the piece is a list of types
abbrev pub is_type_list : ValueTree → Bool
is_type_list (node list ts) = are_types ts
is_type_list _ = false

-- the pieces are two, of which these hold
abbrev pub are_two : (ValueTree → Bool) → (ValueTree → Bool) → Pieces → Bool
are_two first second (a_tree t (a_tree u no_tree)) = first t && second u
are_two first second _ = false

-- the pieces are three, of which these hold
abbrev pub are_three : (ValueTree → Bool) → (ValueTree → Bool) → (ValueTree → Bool) → Pieces → Bool
are_three first second third (a_tree t ts) = first t && are_two second third ts
are_three first second third no_tree = false

-- there are no pieces
abbrev pub are_none : Pieces → Bool
are_none no_tree = true
are_none _ = false

-- An integer type is refused for a width of 2^32 or more.
abbrev pub refused_type : ℕ → Pieces → Option ℕ
refused_type zero ps = refused_unless (is_one is_small_width ps) 0
refused_type (suc zero) ps = refused_unless (are_two is_type_list is_type_list ps) 0
refused_type (suc (suc zero)) ps = refused_unless (are_none ps) 0
refused_type _ ps = Some 0

-- the number of bits of a width
abbrev pub bits_of : Piece → ℕ
bits_of (leaf (width sign bits)) = bits
bits_of _ = 0

-- the piece is a number from -(2^(w - 1)) to 2^w - 1
abbrev pub is_number_of : ℕ → Piece → Bool
is_number_of w (leaf (number negative magnitude)) = cond negative (nat_le (2 * magnitude) (2 ^ w)) (nat_lt magnitude (2 ^ w))
is_number_of w _ = false

-- An integer is refused at its width where that is not from 1 to 64, and else at its number where that is not of the type.
abbrev pub refused_integer : Piece → Piece → Option ℕ
refused_integer p q = cond (has_values (bits_of q)) (refused_unless (is_number_of (bits_of q) p) 0) (Some 1)

-- the piece is a name, or says that there is none
abbrev pub is_name_or_none : ValueTree → Bool
is_name_or_none (node (chosen zero) ts) = is_one is_name ts
is_name_or_none (node (chosen (suc zero)) ts) = are_none ts
is_name_or_none _ = false

-- the piece is a member of a list, and one piece of which this holds
abbrev pub is_member : (ValueTree → Bool) → ValueTree → Bool
is_member test (node item ts) = is_one test ts
is_member test _ = false

-- the number of the first member for which the test fails, where the members have numbers from this one on
abbrev pub first_refused : (ValueTree → Bool) → ℕ → Pieces → Option ℕ
first_refused test i no_tree = None
first_refused test i (a_tree t ts) = cond (is_member test t) (first_refused test (suc i) ts) (Some i)

-- a list is refused for the first member for which the test fails
abbrev pub refused_list : (ValueTree → Bool) → Pieces → Option ℕ
refused_list test (a_tree (node list ts) no_tree) = first_refused test 0 ts
refused_list test _ = Some 0

-- An integer is read of a number and a width, and sizes of numbers of at most 32 bits.
abbrev pub refused_attribute : ℕ → Pieces → Option ℕ
refused_attribute zero (a_tree t (a_tree u no_tree)) = refused_integer (label_of t) (label_of u)
refused_attribute (suc zero) ps = refused_unless (is_one is_name ps) 0
refused_attribute (suc (suc zero)) ps = refused_unless (is_one is_type ps) 0
refused_attribute (suc (suc (suc zero))) ps = refused_list is_size ps
refused_attribute (suc (suc (suc (suc zero)))) ps = refused_list is_name_or_none ps
refused_attribute (suc (suc (suc (suc (suc zero))))) ps = refused_unless (is_one is_text ps) 0
refused_attribute (suc (suc (suc (suc (suc (suc zero)))))) ps = refused_unless (is_one is_text ps) 0
refused_attribute _ ps = Some 0

-- the number that is printed for a number of a type
abbrev pub canonical_number : Piece → Piece → Piece
canonical_number (leaf (number negative magnitude)) (leaf (width s w)) = let n = number_of_bits s w (number_modulo w (record { is_negative = negative; magnitude = magnitude })) in leaf (number n.is_negative n.magnitude)
canonical_number p q = p

-- An integer is printed as the number that its bits stand for, and its width, and each other attribute as it is read.
abbrev pub canonical : ℕ → Pieces → Pieces
canonical zero (a_tree t (a_tree u no_tree)) = a_tree (node (canonical_number (label_of t) (label_of u)) (below t)) (a_tree u no_tree)
canonical _ ps = ps

-- the form of the kind with a number
abbrev pub form_at : ℕ → Option OpForm
form_at n = option_and_then form_of (slice_get read_ops n)

-- An operation of a form is refused whose pieces are not those of it: a name and a region, a name, a type and a region, an
-- integer, two operands and a type, one operand, operands, none, a name, operands and a type, an edge, one operand and two
-- edges.
abbrev pub refused_in : OpForm → Pieces → Option ℕ
refused_in NamedRegion ps = refused_unless (are_two is_name is_region ps) 0
refused_in TypedRegion ps = refused_unless (are_three is_name is_type is_region ps) 0
refused_in Value ps = refused_unless (is_one is_integer ps) 0
refused_in TwoOperands ps = refused_unless (are_three is_operand is_operand is_type ps) 0
refused_in OneOperand ps = refused_unless (is_one is_operand ps) 0
refused_in AnyOperands ps = refused_unless (is_one are_operands ps) 0
refused_in Empty ps = refused_unless (are_none ps) 0
refused_in Called ps = refused_unless (are_three is_name are_operands is_type ps) 0
refused_in Edge ps = refused_unless (is_one is_edge ps) 0
refused_in ConditionEdges ps = refused_unless (are_three is_operand is_edge is_edge ps) 0

abbrev pub refused_by : Option OpForm → Pieces → Option ℕ
refused_by None ps = Some 0
refused_by (Some form) ps = refused_in form ps

abbrev pub refused_operation : ℕ → Pieces → Option ℕ
refused_operation n ps = refused_by (form_at n) ps

-- the type of the pieces of an integer
abbrev pub integer_types : Pieces → List ValueTree
integer_types (a_tree _ (a_tree (node (leaf (width s w)) _) no_tree)) = node (value_of_kind sorts.«Type» 0) (a_tree (node (leaf (width s w)) no_tree) no_tree) ∷ []
integer_types _ = []

-- the type of the pieces of a constant: that of an integer, or the unit type for another attribute
abbrev pub constant_types : Pieces → List ValueTree
constant_types (a_tree (node (value_of_kind sorts.Attribute zero) ts) no_tree) = integer_types ts
constant_types (a_tree (node (value_of_kind sorts.Attribute (suc n)) ts) no_tree) = node (value_of_kind sorts.«Type» 2) no_tree ∷ []
constant_types _ = []

-- the type that pieces of two operands and a type end with
abbrev pub pair_types : Pieces → List ValueTree
pair_types (a_tree _ (a_tree _ (a_tree t no_tree))) = t ∷ []
pair_types _ = []

-- the types of the members of a list of types
abbrev pub member_types : Pieces → List ValueTree
member_types no_tree = []
member_types (a_tree (node item (a_tree t no_tree)) ts) = t ∷ member_types ts
member_types (a_tree _ ts) = member_types ts

-- the types of the results of a function type; none of another type
abbrev pub types_returned : ValueTree → List ValueTree
types_returned (node (value_of_kind sorts.«Type» (suc zero)) (a_tree _ (a_tree (node list ts) no_tree))) = member_types ts
types_returned _ = []

-- the types of the results of the function type that pieces of a call end with
abbrev pub call_types : Pieces → List ValueTree
call_types (a_tree _ (a_tree _ (a_tree t no_tree))) = types_returned t
call_types _ = []

-- A constant has a result: of the type of its value where that is an integer, and else of the unit type. An operation with two
-- operands has one of the type that it says, and what has nothing behind its name one of the unit type. A call has as many as the type of its function has, and of these types. No
-- other operation has any.
abbrev pub result_types_in : OpForm → Pieces → List ValueTree
result_types_in Value ps = constant_types ps
result_types_in TwoOperands ps = pair_types ps
result_types_in Empty ps = node (value_of_kind sorts.«Type» 2) no_tree ∷ []
result_types_in Called ps = call_types ps
result_types_in _ ps = []

abbrev pub result_types_by : Option OpForm → Pieces → List ValueTree
result_types_by None ps = []
result_types_by (Some form) ps = result_types_in form ps

abbrev pub result_types : ℕ → Pieces → List ValueTree
result_types n ps = result_types_by (form_at n) ps

-- what is made of pieces, and what is refused
abbrev pub values : Values
values = record { refused_type = refused_type; refused_attribute = refused_attribute; refused_operation = refused_operation; canonical = canonical; result_types = result_types }
