-- What types, attributes and operations say has the shape of their formats, and can be read.
use Rattle.std.specs.Prelude.{Vec, ◌≡◌, ℕ, suc, ◌+◌, ◌-◌, ◌*◌, ◌%◌, ◌^◌, ◌<◌, ◌≤◌, ◌==◌, ◌&&◌, nat_le, nat_lt, Bool, true, false, List, [], ◌∷◌, length, map, Option, Some, None, option_map, option_and_then, cond, slice_get, String, string_bytes, chars, refl}
use Rattle.std.proofs.Common.{sym, ap, ◌∙◌, subst, arith}
use Rattle.std.proofs.Math.Pow.{pow_mono}
use Rattle.std.proofs.Math.Nat.{mod-eq_of_lt}
use Rattle.std.proofs.lemmas.Bool.{and_parts, eqb-true, eq-eqb, ltb-true, lt-ltb, leb-true, le-leb}
use Rattle.std.proofs.lemmas.Str.{scalars-chars, IsUtf8-string_bytes}
use Rattle.std.proofs.lemmas.Option.{none-some, same_Some, some_pair_parts, slice_get-map}
use Rattle.std.specs.Global.{Global}
use Rattle.ir_base.specs.declared.types.TypeHandle.{TypeHandle}
use Rattle.ir_names.specs.declared.kinds.Signedness.{Signedness}
use Rattle.ir_names.specs.declared.identifier.Identifier.{Identifier}
use Rattle.ir_names.specs.Dictionary.{attribute_at}
use Rattle.ir_names.specs.Identifier.{text_of}
use Rattle.ir_names.specs.Tree.{LabelledTree, Trees, node, no_tree, a_tree}
use Rattle.ir_print.specs.declared.format.Number.{Number}
use Rattle.ir_print.specs.Formats.{a_value, a_leaf}
use Rattle.ir_print.specs.declared.format.LeafSort.TheVariants as leaves
use Rattle.ir_print.specs.Pieces.{value_of_kind, list, item, operands, successor, region, leaf, name, number, width, quoted, ValueTree, Pieces}
use Rattle.ir_print.specs.Shown.{Said, said_type, said_attribute, said_list, said_item, said_operands, said_successor, said_region, said_leaf, alone, ShowsAll, operands_said}
use Rattle.kit_ops.specs.declared.kinds.KitOp.{KitOp}
use Rattle.kit_ops.specs.declared.kinds.KitOp.TheVariants as ops
use Rattle.kit_ops.specs.declared.types.KitType.{KitType}
use Rattle.kit_ops.specs.declared.types.KitType.TheVariants as types
use Rattle.kit_ops.specs.declared.types.KitTypeKind.TheVariants as type_kinds
use Rattle.kit_ops.specs.declared.attributes.KitAttrKind.TheVariants as attr_kinds
use Rattle.kit_ops.specs.declared.attributes.IntegerAttr.{IntegerAttr}
use Rattle.kit_ops.specs.declared.attributes.KitAttr.{KitAttr}
use Rattle.kit_ops.specs.declared.attributes.KitAttr.TheVariants as attrs
use Rattle.kit.specs.Numbers.{number_modulo, is_signed, is_below_zero, number_of_bits, printed_number}
use Rattle.kit_ops.specs.Keys.{symbol_name, function_type, constant_value, callee, callee_type, segment_sizes}
use Rattle.kit_ops.specs.Kinds.{type_kind, attr_kind}
use Rattle.kit_ops.specs.Arithmetic.{arithmetic_number, comparison_number}
use Rattle.kit_ops.proofs.Operators.{arithmetic_at, comparison_at}
use Rattle.kit.specs.Forms.{OpForm, NamedRegion, TypedRegion, Value, TwoOperands, OneOperand, AnyOperands, Empty, Called, Edge, ConditionEdges, form_of, number_of, steps_in, steps_of_form, read_ops, read_types, read_attrs, formats, op_kind, type_form, attr_form, name_or_none}
use Rattle.kit.specs.Says.{says, values, one, two, only, types_said, said_of_type, said_of_attribute, said_of_operation, said_of_module, said_of_function, is_same_type, said_of_constant, said_of_pair, pair_said, said_of_call, call_said, condition_said, said_of_sizes, said_of_condition, said_in, numbered, has_values, integer_said, members_said, size_said, given_name_said, text_said, are_sizes, refused_unless, are_none, is_one, is_name, is_size, is_text, is_name_or_none, first_refused, is_type_member, are_types, is_number_of, refused_type, refused_attribute, refused_in, refused_by, canonical}
use Rattle.kit.specs.Seen.{SeenPiece, none_seen, first_seen, one_seen, two_seen, three_seen}
use Rattle.ir_print.specs.declared.format.ValueSort.TheVariants as sorts
use Rattle.ir_print.specs.Shapes.{parts_in, AreSaidAt, AreMembersSaidAt, IsTypeSaid, IsAttributeSaid, SaysTypes, SaysAttributes, SaysOperations}

-- ---- formats

-- the kinds with numbers have the formats with these numbers
pub operations : (n : ℕ) → slice_get formats.operations n ≡ option_map op_kind (slice_get read_ops n)
operations n = slice_get-map op_kind read_ops n

pub type_formats : (n : ℕ) → slice_get formats.types n ≡ option_map type_form (slice_get read_types n)
type_formats n = slice_get-map type_form read_types n

pub attribute_formats : (n : ℕ) → slice_get formats.attributes n ≡ option_map attr_form (slice_get read_attrs n)
attribute_formats n = slice_get-map attr_form read_attrs n

-- ---- what is said where something holds

of_said : (m n : ℕ) (vs us : Trees (Said KitAttr)) (P : ℕ → Trees (Said KitAttr) → Type 0) → ◌≡◌ {A = Option (ℕ × Trees (Said KitAttr))} (Some (m, vs)) (Some (n, us)) → P m vs → P n us
of_said m n vs us P e k = let p = some_pair_parts m n vs us e in subst (λ (i : ℕ). P i us) p.0 (subst (λ (ws : Trees (Said KitAttr)). P m ws) p.1 k)

-- what is said where a test holds
pub said_if : (b : Bool) (s : Option (ℕ × Trees (Said KitAttr))) (n : ℕ) (us : Trees (Said KitAttr)) → only b s ≡ Some (n, us) → (b ≡ true) × (s ≡ Some (n, us))
said_if true s n us e = (refl, e)
said_if false s n us e = absurd (none-some (n, us) e)

pub only_if : {X : Type 0} (b : Bool) (s : Option X) (x : X) → only b s ≡ Some x → (b ≡ true) × (s ≡ Some x)
only_if true s x e = (refl, e)
only_if false s x e = absurd (none-some x e)

-- ---- types

-- types in a list have its shape
types_shaped : (tys : List TypeHandle) → AreMembersSaidAt ((a_value sorts.«Type») ∷ []) (types_said tys)
types_shaped [] = tt
types_shaped (ty ∷ tys) = ((refl, tt), types_shaped tys)

-- and are types
types_read : (context : List KitType) (tys : List TypeHandle) (ts : Pieces) → ShowsAll says context (types_said tys) ts → are_types ts ≡ true
types_read context [] no_tree h = refl
types_read context [] (a_tree t ts) h = absurd h
types_read context (ty ∷ tys) ts h =
    let first = first_seen says context (node said_item (one (alone (said_type ty)))) (types_said tys) ts h in
    let member = one_seen says context (alone (said_type ty)) first.3.0 first.3.2 in
    let member_is : first.3.0 ≡ a_tree (node (value_of_kind sorts.«Type» member.2.0) member.2.1) no_tree = subst (λ (u : ValueTree). first.3.0 ≡ a_tree u no_tree) member.2.2 member.1 in
    let first_is : first.0 ≡ node item (a_tree (node (value_of_kind sorts.«Type» member.2.0) member.2.1) no_tree) = subst (λ (us : Pieces). first.0 ≡ node item us) member_is first.3.1 in
    ap are_types first.2 ∙ (ap (λ (t : ValueTree). is_type_member t && are_types first.1) first_is ∙ types_read context tys first.1 first.4)

-- the shape and the reading of a type's pieces
abbrev TypeSaid : ℕ → Trees (Said KitAttr) → Type 0
TypeSaid n us = (context : List KitType) (ps : Pieces) → ShowsAll says context us ps → IsTypeSaid says formats values n us ps

integer_type_said : (s : Signedness) (w : ℕ) → nat_lt w (2 ^ 32) ≡ true → TypeSaid 0 (one (alone (said_leaf (width s w))))
integer_type_said s w small context ps h =
    let only_piece = one_seen says context (alone (said_leaf (width s w))) ps h in
    let is : ps ≡ a_tree (node (leaf (width s w)) only_piece.2.0) no_tree = subst (λ (t : ValueTree). ps ≡ a_tree t no_tree) only_piece.2.1 only_piece.1 in
    record {
      kind = type_form type_kinds.Integer;
      at = refl;
      shaped = ((refl, ltb-true w (2 ^ 32) small), tt);
      read = ap (refused_type 0) is ∙ ap (λ (b : Bool). refused_unless b 0) small;
    }

function_type_said : (ins outs : List TypeHandle) → TypeSaid 1 (two (node said_list (types_said ins)) (node said_list (types_said outs)))
function_type_said ins outs context ps h =
    let pieces = two_seen says context (node said_list (types_said ins)) (node said_list (types_said outs)) ps h in
    let first = pieces.3 in
    let second = pieces.4 in
    let is : ps ≡ a_tree (node list first.0) (a_tree (node list second.0) no_tree) =
    pieces.2 ∙ (ap (λ (t : ValueTree). a_tree t (a_tree pieces.1 no_tree)) first.1 ∙ ap (λ (t : ValueTree). a_tree (node list first.0) (a_tree t no_tree)) second.1) in
    record {
      kind = type_form type_kinds.Function;
      at = refl;
      shaped = (types_shaped ins, (types_shaped outs, tt));
      read = ap (refused_type 1) is ∙ (ap (λ (b : Bool). refused_unless (b && are_types second.0) 0) (types_read context ins first.0 first.2) ∙ ap (λ (b : Bool). refused_unless b 0) (types_read context outs second.0 second.2));
    }

unit_type_said : TypeSaid 2 no_tree
unit_type_said context ps h = record { kind = type_form type_kinds.Unit; at = refl; shaped = tt; read = ap (refused_type 2) (none_seen says context ps h) }

-- what types say can be read
pub says_types : SaysTypes says formats values
says_types context (types.Integer t) n us ps e = let said = said_if (nat_lt t.width (2 ^ 32)) (Some (0, one (alone (said_leaf (width t.signedness t.width))))) n us e in
    of_said 0 n (one (alone (said_leaf (width t.signedness t.width)))) us TypeSaid said.1 (integer_type_said t.signedness t.width said.0) context ps
says_types context (types.Function f) n us ps e = of_said 1 n (two (node said_list (types_said f.inputs.items)) (node said_list (types_said f.results.items))) us TypeSaid e (function_type_said f.inputs.items f.results.items) context ps
says_types context types.Unit n us ps e = of_said 2 n no_tree us TypeSaid e unit_type_said context ps

-- ---- attributes

-- bits below 2^width stand for a number in range
pub in_range : (b : Bool) (p bits : ℕ) → (b ≡ true → p ≤ 2 * bits) → bits < p → cond b (nat_le (2 * cond b (p - bits) bits) p) (nat_lt (cond b (p - bits) bits) p) ≡ true
in_range true p bits h low = let half = h refl in le-leb (2 * (p - bits)) p (omega arith)
in_range false p bits h low = lt-ltb bits p low

-- that number has 64 bits
in_64_bits : (b : Bool) (p bits : ℕ) → (b ≡ true → p ≤ 2 * bits) → bits < p → p ≤ 2 ^ 64 → cond b (p - bits) bits < 2 ^ 64
in_64_bits true p bits h low most = let half = h refl in omega arith
in_64_bits false p bits h low most = omega arith

-- and stands for these bits
pub same_bits : (b : Bool) (p bits : ℕ) → bits < p → cond b ((p - cond b (p - bits) bits) % p) (cond b (p - bits) bits % p) ≡ bits
same_bits true p bits low = let back : p - (p - bits) ≡ bits = omega arith in ap (λ n. n % p) back ∙ mod-eq_of_lt low
same_bits false p bits low = mod-eq_of_lt low

-- the highest bit is set in numbers that are printed with a sign
pub high : (s : Signedness) (w bits : ℕ) → is_below_zero s w bits ≡ true → 2 ^ w ≤ 2 * bits
high s w bits e = leb-true (2 ^ w) (2 * bits) (and_parts (is_signed s w) (nat_le (2 ^ w) (2 * bits)) e).1

-- widths of numbers have less than 2^32 bits
small_width : (w : ℕ) → has_values w ≡ true → (w ≤ 64) × (w < 2 ^ 32)
small_width w e = let most = leb-true w 64 (and_parts (nat_le 1 w) (nat_le w 64) e).1 in (most, omega arith)

-- the shape and the reading of an attribute's pieces
abbrev AttributeSaid : ℕ → Trees (Said KitAttr) → Type 0
AttributeSaid n us = (context : List KitType) (ps : Pieces) → ShowsAll says context us ps → IsAttributeSaid says formats values n us ps

-- the pieces of a number and its width
abbrev number_pieces : Number → Pieces → Signedness → ℕ → Pieces → Pieces
number_pieces n ts s w us = a_tree (node (leaf (number n.is_negative n.magnitude)) ts) (a_tree (node (leaf (width s w)) us) no_tree)

integer_attribute_said : (a : IntegerAttr) → has_values a.integer.width ≡ true → nat_lt a.bits (2 ^ a.integer.width) ≡ true → AttributeSaid 0 (integer_said a.integer.signedness a.integer.width (printed_number a))
integer_attribute_said a wide fits context ps h =
    let s = a.integer.signedness in
    let w = a.integer.width in
    let n = printed_number a in
    let pieces = two_seen says context (alone (said_leaf (number n.is_negative n.magnitude))) (alone (said_leaf (width s w))) ps h in
    let ts = pieces.3.0 in
    let us = pieces.4.0 in
    let is : ps ≡ number_pieces n ts s w us = pieces.2 ∙ (ap (λ (t : ValueTree). a_tree t (a_tree pieces.1 no_tree)) pieces.3.1 ∙ ap (λ (t : ValueTree). a_tree (node (leaf (number n.is_negative n.magnitude)) ts) (a_tree t no_tree)) pieces.4.1) in
    let small = small_width w wide in
    let low : a.bits < 2 ^ w = ltb-true a.bits (2 ^ w) fits in
    let range : is_number_of w (leaf (number n.is_negative n.magnitude)) ≡ true = in_range n.is_negative (2 ^ w) a.bits (high s w a.bits) low in
    let same : number_modulo w n ≡ a.bits = same_bits n.is_negative (2 ^ w) a.bits low in
    record {
      kind = attr_form attr_kinds.Integer;
      at = refl;
      shaped = ((refl, in_64_bits n.is_negative (2 ^ w) a.bits (high s w a.bits) low (pow_mono small.0)), ((refl, small.1), tt));
      read = ap (refused_attribute 0) is ∙ (ap (λ (b : Bool). cond b (refused_unless (is_number_of w (leaf (number n.is_negative n.magnitude))) 0) (Some 1)) wide ∙ ap (λ (b : Bool). refused_unless b 0) range);
      canonical = ap (canonical 0) is ∙ (ap (λ (bits : ℕ). number_pieces (number_of_bits s w bits) ts s w us) same ∙ sym is);
    }

identifier_attribute_said : (id : Identifier) → AttributeSaid 1 (one (alone (said_leaf (name (text_of id)))))
identifier_attribute_said id context ps h =
    let piece = one_seen says context (alone (said_leaf (name (text_of id)))) ps h in
    let is : ps ≡ a_tree (node (leaf (name (text_of id))) piece.2.0) no_tree = piece.1 ∙ ap (λ (t : ValueTree). a_tree t no_tree) piece.2.1 in
    record { kind = attr_form attr_kinds.Identifier; at = refl; shaped = ((refl, id.valid), tt); read = ap (refused_attribute 1) is; canonical = refl }

type_attribute_said : (ty : TypeHandle) → AttributeSaid 2 (one (alone (said_type ty)))
type_attribute_said ty context ps h =
    let piece = one_seen says context (alone (said_type ty)) ps h in
    let is : ps ≡ a_tree (node (value_of_kind sorts.«Type» piece.2.0) piece.2.1) no_tree = piece.1 ∙ ap (λ (t : ValueTree). a_tree t no_tree) piece.2.2 in
    record { kind = attr_form attr_kinds.«Type»; at = refl; shaped = (refl, tt); read = ap (refused_attribute 2) is; canonical = refl }

-- Where the first member of a list passes the test, the list is refused for the first of the others that doesn't.
member_read : (context : List KitType) (x : LabelledTree (Said KitAttr)) (us : Trees (Said KitAttr)) (test : ValueTree → Bool) (i : ℕ) (ts : Pieces) → ((t : ValueTree) → SeenPiece says context x t → test t ≡ true) →
    ShowsAll says context (a_tree (node said_item (one x)) us) ts → (rest : Pieces) × ShowsAll says context us rest × (first_refused test i ts ≡ first_refused test (suc i) rest)
member_read context x us test i ts k h =
    let first = first_seen says context (node said_item (one x)) us ts h in
    let member = one_seen says context x first.3.0 first.3.2 in
    let is : ts ≡ a_tree (node item (a_tree member.0 no_tree)) first.1 =
    first.2 ∙ (ap (λ (t : ValueTree). a_tree t first.1) first.3.1 ∙ ap (λ (vs : Pieces). a_tree (node item vs) first.1) member.1) in
    (first.1, first.4, ap (first_refused test i) is ∙ ap (λ (b : Bool). cond b (first_refused test (suc i) first.1) (Some i)) (k member.0 member.2))

-- numbers of at most 32 bits in a list have its shape, and can be read
sizes_shaped : (ns : List ℕ) → are_sizes ns ≡ true → AreMembersSaidAt ((a_leaf leaves.Digits) ∷ []) (members_said size_said ns)
sizes_shaped [] e = tt
sizes_shaped (n ∷ ns) e =
    let both = and_parts (nat_lt n (2 ^ 32)) (are_sizes ns) e in
    let small = ltb-true n (2 ^ 32) both.0 in
    (((refl, omega arith), tt), sizes_shaped ns both.1)

sizes_read : (context : List KitType) (ns : List ℕ) (i : ℕ) (ts : Pieces) → are_sizes ns ≡ true → ShowsAll says context (members_said size_said ns) ts → first_refused is_size i ts ≡ None
sizes_read context [] i ts e h = ap (first_refused is_size i) (none_seen says context ts h)
sizes_read context (n ∷ ns) i ts e h =
    let both = and_parts (nat_lt n (2 ^ 32)) (are_sizes ns) e in
    let more = member_read context (size_said n) (members_said size_said ns) is_size i ts (λ t s. ap is_size s.1 ∙ both.0) h in
    more.2 ∙ sizes_read context ns (suc i) more.0 both.1 more.1

sizes_attribute_said : (ns : List ℕ) → are_sizes ns ≡ true → AttributeSaid 3 (one (node said_list (members_said size_said ns)))
sizes_attribute_said ns e context ps h =
    let piece = one_seen says context (node said_list (members_said size_said ns)) ps h in
    let is : ps ≡ a_tree (node list piece.2.0) no_tree = piece.1 ∙ ap (λ (t : ValueTree). a_tree t no_tree) piece.2.1 in
    record {
      kind = attr_form attr_kinds.SegmentSizes;
      at = refl;
      shaped = (sizes_shaped ns e, tt);
      read = ap (refused_attribute 3) is ∙ sizes_read context ns 0 piece.2.0 e piece.2.2;
      canonical = refl;
    }

-- so have names in a list, some of which aren't given
names_shaped : (ids : List (Option Identifier)) → AreMembersSaidAt (name_or_none ∷ []) (members_said given_name_said (map (option_map text_of) ids))
names_shaped [] = tt
names_shaped (Some id ∷ ids) = ((((refl, id.valid), tt), tt), names_shaped ids)
names_shaped (None ∷ ids) = ((tt, tt), names_shaped ids)

given_name_read : (context : List KitType) (o : Option (List ℕ)) (t : ValueTree) → SeenPiece says context (given_name_said o) t → is_name_or_none t ≡ true
given_name_read context (Some cs) t s =
    let inner = one_seen says context (alone (said_leaf (name cs))) s.0 s.2 in
    let is : s.0 ≡ a_tree (node (leaf (name cs)) inner.2.0) no_tree = inner.1 ∙ ap (λ (u : ValueTree). a_tree u no_tree) inner.2.1 in
    ap is_name_or_none s.1 ∙ ap (is_one is_name) is
given_name_read context None t s = ap is_name_or_none s.1 ∙ ap are_none (none_seen says context s.0 s.2)

names_read : (context : List KitType) (os : List (Option (List ℕ))) (i : ℕ) (ts : Pieces) → ShowsAll says context (members_said given_name_said os) ts → first_refused is_name_or_none i ts ≡ None
names_read context [] i ts h = ap (first_refused is_name_or_none i) (none_seen says context ts h)
names_read context (o ∷ os) i ts h =
    let more = member_read context (given_name_said o) (members_said given_name_said os) is_name_or_none i ts (given_name_read context o) h in
    more.2 ∙ names_read context os (suc i) more.0 more.1

names_attribute_said : (ids : List (Option Identifier)) → AttributeSaid 4 (one (node said_list (members_said given_name_said (map (option_map text_of) ids))))
names_attribute_said ids context ps h =
    let texts = map (option_map text_of) ids in
    let piece = one_seen says context (node said_list (members_said given_name_said texts)) ps h in
    let is : ps ≡ a_tree (node list piece.2.0) no_tree = piece.1 ∙ ap (λ (t : ValueTree). a_tree t no_tree) piece.2.1 in
    record {
      kind = attr_form attr_kinds.GivenNames;
      at = refl;
      shaped = (names_shaped ids, tt);
      read = ap (refused_attribute 4) is ∙ names_read context texts 0 piece.2.0 piece.2.2;
      canonical = refl;
    }

-- and texts in quotes
text_read : (context : List KitType) (bytes : List ℕ) (ps : Pieces) → ShowsAll says context (text_said bytes) ps → is_one is_text ps ≡ true
text_read context bytes ps h =
    let piece = one_seen says context (alone (said_leaf (quoted (chars bytes)))) ps h in
    ap (is_one is_text) piece.1 ∙ ap is_text piece.2.1

note_said : (text : String Global) → AttributeSaid 5 (text_said (string_bytes text))
note_said text context ps h =
    record {
      kind = attr_form attr_kinds.Note;
      at = refl;
      shaped = ((refl, scalars-chars (string_bytes text) (IsUtf8-string_bytes text)), tt);
      read = ap (λ (b : Bool). refused_unless b 0) (text_read context (string_bytes text) ps h);
      canonical = refl;
    }

origin_said : (text : String Global) → AttributeSaid 6 (text_said (string_bytes text))
origin_said text context ps h =
    record {
      kind = attr_form attr_kinds.Origin;
      at = refl;
      shaped = ((refl, scalars-chars (string_bytes text) (IsUtf8-string_bytes text)), tt);
      read = ap (λ (b : Bool). refused_unless b 0) (text_read context (string_bytes text) ps h);
      canonical = refl;
    }

-- what attributes say, given of each what it says and of which kind
pub attribute_by : (P : KitAttr → ℕ → Trees (Said KitAttr) → Type 0) →
    ((a : IntegerAttr) → has_values a.integer.width ≡ true → nat_lt a.bits (2 ^ a.integer.width) ≡ true → P (attrs.Integer a) 0 (integer_said a.integer.signedness a.integer.width (printed_number a))) →
    ((id : Identifier) → P (attrs.Identifier id) 1 (one (alone (said_leaf (name (text_of id)))))) →
    ((ty : TypeHandle) → P (attrs.«Type» ty) 2 (one (alone (said_type ty)))) →
    ((sizes : Vec ℕ Global) → are_sizes sizes.items ≡ true → P (attrs.SegmentSizes sizes) 3 (one (node said_list (members_said size_said sizes.items)))) →
    ((names : Vec (Option Identifier) Global) → P (attrs.GivenNames names) 4 (one (node said_list (members_said given_name_said (map (option_map text_of) names.items))))) →
    ((text : String Global) → P (attrs.Note text) 5 (text_said (string_bytes text))) →
    ((text : String Global) → P (attrs.Origin text) 6 (text_said (string_bytes text))) →
    (attr : KitAttr) (n : ℕ) (us : Trees (Said KitAttr)) → said_of_attribute attr ≡ Some (n, us) → P attr n us
attribute_by P integer identifier ty sizes names note origin (attrs.Integer a) n us e =
    let said = said_if (has_values a.integer.width && nat_lt a.bits (2 ^ a.integer.width)) (Some (0, integer_said a.integer.signedness a.integer.width (printed_number a))) n us e in
    let tests = and_parts (has_values a.integer.width) (nat_lt a.bits (2 ^ a.integer.width)) said.0 in
    of_said 0 n (integer_said a.integer.signedness a.integer.width (printed_number a)) us (P (attrs.Integer a)) said.1 (integer a tests.0 tests.1)
attribute_by P integer identifier ty sizes names note origin (attrs.Identifier id) n us e = of_said 1 n (one (alone (said_leaf (name (text_of id))))) us (P (attrs.Identifier id)) e (identifier id)
attribute_by P integer identifier ty sizes names note origin (attrs.«Type» t) n us e = of_said 2 n (one (alone (said_type t))) us (P (attrs.«Type» t)) e (ty t)
attribute_by P integer identifier ty sizes names note origin (attrs.SegmentSizes v) n us e =
    let said = said_if (are_sizes v.items) (Some (3, one (node said_list (members_said size_said v.items)))) n us e in
    of_said 3 n (one (node said_list (members_said size_said v.items))) us (P (attrs.SegmentSizes v)) said.1 (sizes v said.0)
attribute_by P integer identifier ty sizes names note origin (attrs.GivenNames v) n us e =
    of_said 4 n (one (node said_list (members_said given_name_said (map (option_map text_of) v.items)))) us (P (attrs.GivenNames v)) e (names v)
attribute_by P integer identifier ty sizes names note origin (attrs.Note text) n us e = of_said 5 n (text_said (string_bytes text)) us (P (attrs.Note text)) e (note text)
attribute_by P integer identifier ty sizes names note origin (attrs.Origin text) n us e = of_said 6 n (text_said (string_bytes text)) us (P (attrs.Origin text)) e (origin text)

-- what attributes say can be read
pub says_attributes : SaysAttributes says formats values
says_attributes context attr n us ps e =
    attribute_by (λ a m vs. AttributeSaid m vs) integer_attribute_said identifier_attribute_said type_attribute_said (λ sizes. sizes_attribute_said sizes.items)
    (λ names. names_attribute_said names.items) note_said origin_said attr n us e context ps

-- ---- operations

-- The shape and the reading of the pieces of an operation of a form: what is said has the shape of its steps, and the pieces
-- aren't refused and say as many operands as there are.
pub record FormRead (form : OpForm) (count : ℕ) (us : Trees (Said KitAttr)) (ps : Pieces) : Type 0 where
  pub shaped : AreSaidAt (parts_in (steps_in form)) us
  pub read : refused_in form ps ≡ None
  pub operands : operands_said ps ≡ count

abbrev FormSaid : OpForm → ℕ → Trees (Said KitAttr) → Type 0
FormSaid form count us = (context : List KitType) (ps : Pieces) → ShowsAll says context us ps → FormRead form count us ps

module_said : (id : Identifier) → FormSaid NamedRegion 0 (two (alone (said_leaf (name (text_of id)))) (alone said_region))
module_said id context ps h =
    let pieces = two_seen says context (alone (said_leaf (name (text_of id)))) (alone said_region) ps h in
    let is : ps ≡ a_tree (node (leaf (name (text_of id))) pieces.3.0) (a_tree (node region pieces.4.0) no_tree) =
    pieces.2 ∙ (ap (λ (t : ValueTree). a_tree t (a_tree pieces.1 no_tree)) pieces.3.1 ∙ ap (λ (t : ValueTree). a_tree (node (leaf (name (text_of id))) pieces.3.0) (a_tree t no_tree)) pieces.4.1) in
    record { shaped = ((refl, id.valid), (refl, tt)); read = ap (refused_in NamedRegion) is; operands = ap operands_said is }

function_said : (id : Identifier) (ty : TypeHandle) → FormSaid TypedRegion 0 (a_tree (alone (said_leaf (name (text_of id)))) (two (alone (said_type ty)) (alone said_region)))
function_said id ty context ps h =
    let pieces = three_seen says context (alone (said_leaf (name (text_of id)))) (alone (said_type ty)) (alone said_region) ps h in
    let is : ps ≡ a_tree (node (leaf (name (text_of id))) pieces.4.0) (a_tree (node (value_of_kind sorts.«Type» pieces.5.0) pieces.5.1) (a_tree (node region pieces.6.0) no_tree)) =
    pieces.3 ∙ (ap (λ (t : ValueTree). a_tree t (a_tree pieces.1 (a_tree pieces.2 no_tree))) pieces.4.1
    ∙ (ap (λ (t : ValueTree). a_tree (node (leaf (name (text_of id))) pieces.4.0) (a_tree t (a_tree pieces.2 no_tree))) pieces.5.2
    ∙ ap (λ (t : ValueTree). a_tree (node (leaf (name (text_of id))) pieces.4.0) (a_tree (node (value_of_kind sorts.«Type» pieces.5.0) pieces.5.1) (a_tree t no_tree))) pieces.6.1)) in
    record { shaped = ((refl, id.valid), (refl, (refl, tt))); read = ap (refused_in TypedRegion) is; operands = ap operands_said is }

-- integers are of the kind with the number 0
integer_number : (a : IntegerAttr) (n : ℕ) (us : Trees (Said KitAttr)) → said_of_attribute (attrs.Integer a) ≡ Some (n, us) → 0 ≡ n
integer_number a n us e =
    let said = said_if (has_values a.integer.width && nat_lt a.bits (2 ^ a.integer.width)) (Some (0, integer_said a.integer.signedness a.integer.width (printed_number a))) n us e in
    (some_pair_parts 0 n (integer_said a.integer.signedness a.integer.width (printed_number a)) us said.1).0

constant_said : (a : IntegerAttr) → FormSaid Value 0 (one (alone (said_attribute (attrs.Integer a))))
constant_said a context ps h =
    let piece = one_seen says context (alone (said_attribute (attrs.Integer a))) ps h in
    let whole = piece.2.3 in
    let same : whole.0 ≡ attrs.Integer a = let f = whole.2 in cc in
    let number_is : 0 ≡ piece.2.0 = integer_number a piece.2.0 whole.1 (sym (ap said_of_attribute same) ∙ whole.3) in
    let is : ps ≡ a_tree (node (value_of_kind sorts.Attribute 0) piece.2.1) no_tree =
    piece.1 ∙ (ap (λ (t : ValueTree). a_tree t no_tree) piece.2.2 ∙ ap (λ (n : ℕ). a_tree (node (value_of_kind sorts.Attribute n) piece.2.1) no_tree) (sym number_is)) in
    record { shaped = (refl, tt); read = ap (refused_in Value) is; operands = ap operands_said is }

operands_read : (count : ℕ) → FormSaid AnyOperands count (one (alone (said_operands count)))
operands_read count context ps h =
    let piece = one_seen says context (alone (said_operands count)) ps h in
    let is : ps ≡ a_tree (node (operands count) piece.2.0) no_tree = piece.1 ∙ ap (λ (t : ValueTree). a_tree t no_tree) piece.2.1 in
    let plain : count + 0 ≡ count = omega arith in
    record { shaped = (tt, tt); read = ap (refused_in AnyOperands) is; operands = ap operands_said is ∙ plain }

operand_read : FormSaid OneOperand 1 (one (alone (said_operands 1)))
operand_read context ps h =
    let piece = one_seen says context (alone (said_operands 1)) ps h in
    let is : ps ≡ a_tree (node (operands 1) piece.2.0) no_tree = piece.1 ∙ ap (λ (t : ValueTree). a_tree t no_tree) piece.2.1 in
    record { shaped = (refl, tt); read = ap (refused_in OneOperand) is; operands = ap operands_said is }

pair_read : (ty : TypeHandle) → FormSaid TwoOperands 2 (pair_said ty)
pair_read ty context ps h =
    let pieces = three_seen says context (alone (said_operands 1)) (alone (said_operands 1)) (alone (said_type ty)) ps h in
    let is : ps ≡ a_tree (node (operands 1) pieces.4.0) (a_tree (node (operands 1) pieces.5.0) (a_tree (node (value_of_kind sorts.«Type» pieces.6.0) pieces.6.1) no_tree)) =
    pieces.3 ∙ (ap (λ (t : ValueTree). a_tree t (a_tree pieces.1 (a_tree pieces.2 no_tree))) pieces.4.1
    ∙ (ap (λ (t : ValueTree). a_tree (node (operands 1) pieces.4.0) (a_tree t (a_tree pieces.2 no_tree))) pieces.5.1
    ∙ ap (λ (t : ValueTree). a_tree (node (operands 1) pieces.4.0) (a_tree (node (operands 1) pieces.5.0) (a_tree t no_tree))) pieces.6.2)) in
    record { shaped = (refl, (refl, (refl, tt))); read = ap (refused_in TwoOperands) is; operands = ap operands_said is }

empty_read : FormSaid Empty 0 no_tree
empty_read context ps h =
    let is = none_seen says context ps h in
    record { shaped = tt; read = ap (refused_in Empty) is; operands = ap operands_said is }

call_read : (id : Identifier) (ty : TypeHandle) (count : ℕ) → FormSaid Called count (call_said (text_of id) ty count)
call_read id ty count context ps h =
    let pieces = three_seen says context (alone (said_leaf (name (text_of id)))) (alone (said_operands count)) (alone (said_type ty)) ps h in
    let is : ps ≡ a_tree (node (leaf (name (text_of id))) pieces.4.0) (a_tree (node (operands count) pieces.5.0) (a_tree (node (value_of_kind sorts.«Type» pieces.6.0) pieces.6.1) no_tree)) =
    pieces.3 ∙ (ap (λ (t : ValueTree). a_tree t (a_tree pieces.1 (a_tree pieces.2 no_tree))) pieces.4.1
    ∙ (ap (λ (t : ValueTree). a_tree (node (leaf (name (text_of id))) pieces.4.0) (a_tree t (a_tree pieces.2 no_tree))) pieces.5.1
    ∙ ap (λ (t : ValueTree). a_tree (node (leaf (name (text_of id))) pieces.4.0) (a_tree (node (operands count) pieces.5.0) (a_tree t no_tree))) pieces.6.2)) in
    let plain : count + 0 ≡ count = omega arith in
    record { shaped = ((refl, id.valid), (tt, (refl, tt))); read = ap (refused_in Called) is; operands = ap operands_said is ∙ plain }

edge_read : (count : ℕ) → FormSaid Edge count (one (alone (said_successor count)))
edge_read count context ps h =
    let piece = one_seen says context (alone (said_successor count)) ps h in
    let is : ps ≡ a_tree (node (successor count) piece.2.0) no_tree = piece.1 ∙ ap (λ (t : ValueTree). a_tree t no_tree) piece.2.1 in
    let plain : count + 0 ≡ count = omega arith in
    record { shaped = (refl, tt); read = ap (refused_in Edge) is; operands = ap operands_said is ∙ plain }

edges_read : (a b : ℕ) → FormSaid ConditionEdges (1 + (a + b)) (condition_said a b)
edges_read a b context ps h =
    let pieces = three_seen says context (alone (said_operands 1)) (alone (said_successor a)) (alone (said_successor b)) ps h in
    let is : ps ≡ a_tree (node (operands 1) pieces.4.0) (a_tree (node (successor a) pieces.5.0) (a_tree (node (successor b) pieces.6.0) no_tree)) =
    pieces.3 ∙ (ap (λ (t : ValueTree). a_tree t (a_tree pieces.1 (a_tree pieces.2 no_tree))) pieces.4.1
    ∙ (ap (λ (t : ValueTree). a_tree (node (operands 1) pieces.4.0) (a_tree t (a_tree pieces.2 no_tree))) pieces.5.1
    ∙ ap (λ (t : ValueTree). a_tree (node (operands 1) pieces.4.0) (a_tree (node (successor a) pieces.5.0) (a_tree t no_tree))) pieces.6.1)) in
    let plain : 1 + (a + (b + 0)) ≡ 1 + (a + b) = omega arith in
    record { shaped = (refl, (refl, (refl, tt))); read = ap (refused_in ConditionEdges) is; operands = ap operands_said is ∙ plain }

-- a fact of what is said holds where it holds of what a name, a name and a type, a value, a result say
is_said : (vs us : Trees (Said KitAttr)) (P : Trees (Said KitAttr) → Type 0) → ◌≡◌ {A = Option (Trees (Said KitAttr))} (Some vs) (Some us) → P vs → P us
is_said vs us P e k = let same : vs ≡ us = cc in subst P same k

module_by : (P : Trees (Said KitAttr) → Type 0) → ((id : Identifier) → P (two (alone (said_leaf (name (text_of id)))) (alone said_region))) → (o : Option KitAttr) (us : Trees (Said KitAttr)) → said_of_module o ≡ Some us → P us
module_by P k (Some (attrs.Identifier id)) us e = is_said (two (alone (said_leaf (name (text_of id)))) (alone said_region)) us P e (k id)
module_by P k (Some other) us e = absurd (none-some us e)
module_by P k None us e = absurd (none-some us e)

function_by : (P : Trees (Said KitAttr) → Type 0) → ((id : Identifier) (ty : TypeHandle) → P (a_tree (alone (said_leaf (name (text_of id)))) (two (alone (said_type ty)) (alone said_region)))) →
    (o p : Option KitAttr) (us : Trees (Said KitAttr)) → said_of_function o p ≡ Some us → P us
function_by P k (Some (attrs.Identifier id)) (Some (attrs.«Type» ty)) us e = is_said (a_tree (alone (said_leaf (name (text_of id)))) (two (alone (said_type ty)) (alone said_region))) us P e (k id ty)
function_by P k (Some (attrs.Identifier id)) other us e = absurd (none-some us e)
function_by P k other p us e = absurd (none-some us e)

-- A constant that says anything has an integer as its value, and one result, of the type of that: it says the value.
pub record ConstantSays (o : Option KitAttr) (tys : List TypeHandle) (us : Trees (Said KitAttr)) : Type 0 where
  pub value : IntegerAttr
  pub has : o ≡ Some (attrs.Integer value)
  pub result : tys ≡ value.ty ∷ []
  pub says_it : one (alone (said_attribute (attrs.Integer value))) ≡ us

pub constant_says : (o : Option KitAttr) (tys : List TypeHandle) (us : Trees (Said KitAttr)) → said_of_constant o tys ≡ Some us → ConstantSays o tys us
constant_says (Some (attrs.Integer a)) [] us e = absurd (none-some us e)
constant_says (Some (attrs.Integer a)) (ty ∷ other ∷ tys) us e = absurd (none-some us e)
constant_says (Some (attrs.Integer a)) (ty ∷ []) us e =
    let said = only_if (is_same_type a.ty ty) (Some (one (alone (said_attribute (attrs.Integer a))))) us e in
    record {
      value = a;
      has = refl;
      result = ap (λ (n : ℕ). record { number = n } ∷ []) (sym (eqb-true a.ty.number ty.number said.0));
      says_it = same_Some (one (alone (said_attribute (attrs.Integer a)))) us said.1;
    }
constant_says (Some other) tys us e = absurd (none-some us e)
constant_says None tys us e = absurd (none-some us e)

-- and where it has them, it says the value
pub constant_said_so : (a : IntegerAttr) → said_of_constant (Some (attrs.Integer a)) (a.ty ∷ []) ≡ Some (one (alone (said_attribute (attrs.Integer a))))
constant_said_so a = ap (λ (b : Bool). only b (Some (one (alone (said_attribute (attrs.Integer a)))))) (eq-eqb a.ty.number a.ty.number refl)

constant_by : (P : Trees (Said KitAttr) → Type 0) → ((a : IntegerAttr) → P (one (alone (said_attribute (attrs.Integer a))))) → (o : Option KitAttr) (tys : List TypeHandle) (us : Trees (Said KitAttr)) → said_of_constant o tys ≡ Some us → P us
constant_by P k o tys us e = let said = constant_says o tys us e in subst P said.says_it (k said.value)

pair_by : (P : Trees (Said KitAttr) → Type 0) → ((ty : TypeHandle) → P (pair_said ty)) → (tys : List TypeHandle) (us : Trees (Said KitAttr)) → said_of_pair tys ≡ Some us → P us
pair_by P k [] us e = absurd (none-some us e)
pair_by P k (ty ∷ []) us e = is_said (pair_said ty) us P e (k ty)
pair_by P k (ty ∷ other ∷ tys) us e = absurd (none-some us e)

-- A call that says anything has a name and a type: it says these, and how many operands it has.
pub record CallSays (o p : Option KitAttr) (count : ℕ) (us : Trees (Said KitAttr)) : Type 0 where
  pub name : Identifier
  pub type : TypeHandle
  pub has_name : o ≡ Some (attrs.Identifier name)
  pub has_type : p ≡ Some (attrs.«Type» type)
  pub says_it : call_said (text_of name) type count ≡ us

pub call_says : (o p : Option KitAttr) (count : ℕ) (us : Trees (Said KitAttr)) → said_of_call o p count ≡ Some us → CallSays o p count us
call_says (Some (attrs.Identifier id)) (Some (attrs.«Type» ty)) count us e =
    record { name = id; type = ty; has_name = refl; has_type = refl; says_it = same_Some (call_said (text_of id) ty count) us e }
call_says (Some (attrs.Identifier id)) other count us e = absurd (none-some us e)
call_says other p count us e = absurd (none-some us e)

call_by : (P : Trees (Said KitAttr) → Type 0) (count : ℕ) → ((id : Identifier) (ty : TypeHandle) → P (call_said (text_of id) ty count)) →
    (o p : Option KitAttr) (us : Trees (Said KitAttr)) → said_of_call o p count ≡ Some us → P us
call_by P count k o p us e = let said = call_says o p count us e in subst P said.says_it (k said.name said.type)

-- Segments of which anything is said are three, which add up to the operands: of one operand, and of what each edge hands on.
pub record SizesSay (xs : List ℕ) (count : ℕ) (us : Trees (Said KitAttr)) : Type 0 where
  pub first : ℕ
  pub second : ℕ
  pub are : xs ≡ 1 ∷ first ∷ second ∷ []
  pub adds_up : 1 + (first + second) ≡ count
  pub says_it : condition_said first second ≡ us

pub sizes_say : (xs : List ℕ) (count : ℕ) (us : Trees (Said KitAttr)) → said_of_sizes xs count ≡ Some us → SizesSay xs count us
sizes_say (c ∷ a ∷ b ∷ []) count us e =
    let said = only_if (c == 1 && 1 + (a + b) == count) (Some (condition_said a b)) us e in
    let tests = and_parts (c == 1) (1 + (a + b) == count) said.0 in
    record {
      first = a;
      second = b;
      are = ap (λ (n : ℕ). n ∷ a ∷ b ∷ []) (eqb-true c 1 tests.0);
      adds_up = eqb-true (1 + (a + b)) count tests.1;
      says_it = same_Some (condition_said a b) us said.1;
    }
sizes_say other count us e = absurd (none-some us e)

-- A conditional branch that says anything has such sizes.
pub record ConditionSays (o : Option KitAttr) (count : ℕ) (us : Trees (Said KitAttr)) : Type 0 where
  pub sizes : Vec ℕ Global
  pub has_sizes : o ≡ Some (attrs.SegmentSizes sizes)
  pub say : SizesSay sizes.items count us

pub condition_says : (o : Option KitAttr) (count : ℕ) (us : Trees (Said KitAttr)) → said_of_condition o count ≡ Some us → ConditionSays o count us
condition_says (Some (attrs.SegmentSizes sizes)) count us e = record { sizes = sizes; has_sizes = refl; say = sizes_say sizes.items count us e }
condition_says other count us e = absurd (none-some us e)

-- the number of operands is right
many_used : (many : Bool) (count used : ℕ) → (many && count == used) ≡ true → used ≡ count
many_used many count used e = sym (eqb-true count used (and_parts many (count == used) e).1)

-- what an operation of a form says has its shape, and can be read
form_said : (form : OpForm) (entries : List (List ℕ × KitAttr)) (count : ℕ) (tys : List TypeHandle) (us : Trees (Said KitAttr)) → said_in form entries count tys ≡ Some us → FormSaid form count us
form_said NamedRegion entries count tys us e =
    let said = only_if (length entries == 1 && count == 0) (said_of_module (attribute_at entries symbol_name)) us e in
    subst (λ (c : ℕ). FormSaid NamedRegion c us) (many_used (length entries == 1) count 0 said.0) (module_by (FormSaid NamedRegion 0) module_said (attribute_at entries symbol_name) us said.1)
form_said TypedRegion entries count tys us e =
    let said = only_if (length entries == 2 && count == 0) (said_of_function (attribute_at entries symbol_name) (attribute_at entries function_type)) us e in
    subst (λ (c : ℕ). FormSaid TypedRegion c us) (many_used (length entries == 2) count 0 said.0) (function_by (FormSaid TypedRegion 0) function_said (attribute_at entries symbol_name) (attribute_at entries function_type) us said.1)
form_said Value entries count tys us e =
    let said = only_if (length entries == 1 && count == 0) (said_of_constant (attribute_at entries constant_value) tys) us e in
    subst (λ (c : ℕ). FormSaid Value c us) (many_used (length entries == 1) count 0 said.0) (constant_by (FormSaid Value 0) constant_said (attribute_at entries constant_value) tys us said.1)
form_said TwoOperands entries count tys us e =
    let said = only_if (length entries == 0 && count == 2) (said_of_pair tys) us e in
    subst (λ (c : ℕ). FormSaid TwoOperands c us) (many_used (length entries == 0) count 2 said.0) (pair_by (FormSaid TwoOperands 2) pair_read tys us said.1)
form_said OneOperand entries count tys us e =
    let said = only_if (length entries == 0 && count == 1) (Some (one (alone (said_operands 1)))) us e in
    subst (λ (c : ℕ). FormSaid OneOperand c us) (many_used (length entries == 0) count 1 said.0) (is_said (one (alone (said_operands 1))) us (FormSaid OneOperand 1) said.1 operand_read)
form_said AnyOperands entries count tys us e =
    let said = only_if (length entries == 0) (Some (one (alone (said_operands count)))) us e in
    is_said (one (alone (said_operands count))) us (FormSaid AnyOperands count) said.1 (operands_read count)
form_said Empty entries count tys us e =
    let said = only_if (length entries == 0 && count == 0) (Some no_tree) us e in
    subst (λ (c : ℕ). FormSaid Empty c us) (many_used (length entries == 0) count 0 said.0) (is_said no_tree us (FormSaid Empty 0) said.1 empty_read)
form_said Called entries count tys us e =
    let said = only_if (length entries == 2) (said_of_call (attribute_at entries callee) (attribute_at entries callee_type) count) us e in
    call_by (FormSaid Called count) count (λ id ty. call_read id ty count) (attribute_at entries callee) (attribute_at entries callee_type) us said.1
form_said Edge entries count tys us e =
    let said = only_if (length entries == 0) (Some (one (alone (said_successor count)))) us e in
    is_said (one (alone (said_successor count))) us (FormSaid Edge count) said.1 (edge_read count)
form_said ConditionEdges entries count tys us e =
    let said = only_if (length entries == 1) (said_of_condition (attribute_at entries segment_sizes) count) us e in
    let condition = condition_says (attribute_at entries segment_sizes) count us said.1 in
    let sizes = condition.say in
    subst (FormSaid ConditionEdges count) sizes.says_it
    (subst (λ (c : ℕ). FormSaid ConditionEdges c (condition_said sizes.first sizes.second)) sizes.adds_up (edges_read sizes.first sizes.second))

numbered_by : (k : ℕ) (said : Option (Trees (Said KitAttr))) (n : ℕ) (us : Trees (Said KitAttr)) → option_map {U = ℕ × Trees (Said KitAttr)} (λ vs. (k, vs)) said ≡ Some (n, us) → (Some k ≡ Some n) × (said ≡ Some us)
numbered_by k (Some vs) n us e = let p = some_pair_parts k n vs us e in (ap Some p.0, ap Some p.1)
numbered_by k None n us e = absurd (none-some (n, us) e)

at_number : (m n : ℕ) (kind : KitOp) → Some m ≡ Some n → slice_get read_ops m ≡ Some kind → slice_get read_ops n ≡ Some kind
at_number m n kind e h = let same : m ≡ n = cc in subst (λ (i : ℕ). slice_get read_ops i ≡ Some kind) same h

-- what is said with a number is said in a form
pub is_numbered : (form : Option OpForm) (index : Option ℕ) (said : OpForm → Option (Trees (Said KitAttr))) (n : ℕ) (us : Trees (Said KitAttr)) → numbered form index said ≡ Some (n, us) →
    (f : OpForm) × (form ≡ Some f) × (index ≡ Some n) × (said f ≡ Some us)
is_numbered (Some f) (Some k) said n us e = let both = numbered_by k (said f) n us e in (f, refl, both.0, both.1)
is_numbered (Some f) None said n us e = absurd (none-some (n, us) e)
is_numbered None index said n us e = absurd (none-some (n, us) e)

-- the kind that says a number has it
pub numbered_kind : (kind : KitOp) (n : ℕ) → number_of kind ≡ Some n → slice_get read_ops n ≡ Some kind
numbered_kind ops.Module n e = at_number 0 n ops.Module e refl
numbered_kind ops.Func n e = at_number 1 n ops.Func e refl
numbered_kind ops.Constant n e = at_number 2 n ops.Constant e refl
numbered_kind ops.Return n e = at_number 3 n ops.Return e refl
numbered_kind ops.Emit n e = at_number 4 n ops.Emit e refl
numbered_kind ops.ForwardRef n e = at_number 5 n ops.ForwardRef e refl
numbered_kind ops.Call n e = at_number 6 n ops.Call e refl
numbered_kind ops.Br n e = at_number 7 n ops.Br e refl
numbered_kind ops.CondBr n e = at_number 8 n ops.CondBr e refl
numbered_kind (ops.Arithmetic a) n e = at_number (suc (suc (suc (suc (suc (suc (suc (suc (suc (arithmetic_number a)))))))))) n (ops.Arithmetic a) e (arithmetic_at a)
numbered_kind (ops.Comparison c) n e = at_number (suc (suc (suc (suc (suc (suc (suc (suc (suc (comparison_number c)))))))))) n (ops.Comparison c) e (comparison_at c)

-- what operations say can be read
pub says_operations : SaysOperations says formats values
says_operations context kind entries count tys n us ps e h =
    let said = is_numbered (form_of kind) (number_of kind) (λ form. said_in form entries count tys) n us e in
    let here = numbered_kind kind n said.2 in
    let read = form_said said.0 entries count tys us said.3 context ps h in
    record {
      kind = op_kind kind;
      at = operations n ∙ ap (option_map op_kind) here;
      shaped = subst (λ (f : Option OpForm). AreSaidAt (parts_in (steps_of_form f)) us) (sym said.1) read.shaped;
      read = ap (λ (k : Option KitOp). refused_by (option_and_then form_of k) ps) here ∙ (ap (λ (f : Option OpForm). refused_by f ps) said.1 ∙ read.read);
      operands = read.operands;
    }

-- an operation says the number of its own kind
pub says_kinds : (kind : KitOp) (entries : List (List ℕ × KitAttr)) (count : ℕ) (tys : List TypeHandle) (n : ℕ) (us : Trees (Said KitAttr)) → said_of_operation kind entries count tys ≡ Some (n, us) → slice_get read_ops n ≡ Some kind
says_kinds kind entries count tys n us e = numbered_kind kind n (is_numbered (form_of kind) (number_of kind) (λ form. said_in form entries count tys) n us e).2

-- so does a type
pub says_type_kinds : (key : KitType) (n : ℕ) (us : Trees (Said KitAttr)) → said_of_type key ≡ Some (n, us) → slice_get read_types n ≡ Some (type_kind key)
says_type_kinds (types.Integer t) n us e = let said = said_if (nat_lt t.width (2 ^ 32)) (Some (0, one (alone (said_leaf (width t.signedness t.width))))) n us e in
    of_said 0 n (one (alone (said_leaf (width t.signedness t.width)))) us (λ m vs. slice_get read_types m ≡ Some type_kinds.Integer) said.1 refl
says_type_kinds (types.Function f) n us e = of_said 1 n (two (node said_list (types_said f.inputs.items)) (node said_list (types_said f.results.items))) us (λ m vs. slice_get read_types m ≡ Some type_kinds.Function) e refl
says_type_kinds types.Unit n us e = of_said 2 n no_tree us (λ m vs. slice_get read_types m ≡ Some type_kinds.Unit) e refl

-- and an attribute
pub says_attr_kinds : (attr : KitAttr) (n : ℕ) (us : Trees (Said KitAttr)) → said_of_attribute attr ≡ Some (n, us) → slice_get read_attrs n ≡ Some (attr_kind attr)
says_attr_kinds = attribute_by (λ a m vs. slice_get read_attrs m ≡ Some (attr_kind a)) (λ a wide fits. refl) (λ id. refl) (λ ty. refl) (λ sizes e. refl) (λ names. refl) (λ text. refl) (λ text. refl)
