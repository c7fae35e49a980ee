-- What the type, attributes and operations say has the shape of their formats, and can be read.
use Rattle.std.specs.Prelude.{◌≡◌, ℕ, zero, suc, ◌+◌, ◌^◌, ◌==◌, ◌&&◌, nat_lt, Bool, true, List, [], length, Option, Some, None, is_some, option_map, slice_get, refl}
use Rattle.std.proofs.Common.{sym, ap, ◌∙◌, subst, arith}
use Rattle.std.proofs.lemmas.Bool.{and_parts, eqb-true, ltb-true, true≢false}
use Rattle.std.proofs.lemmas.Option.{none-some, same_Some, some_pair_parts, slice_get-map}
use Rattle.ir_base.specs.declared.types.TypeHandle.{TypeHandle}
use Rattle.ir_names.specs.Dictionary.{attribute_at}
use Rattle.ir_names.specs.Tree.{Trees, node, no_tree}
use Rattle.ir_print.specs.Pieces.{value_of_kind, operands, successor, region, leaf, Pieces}
use Rattle.ir_print.specs.declared.format.ValueSort.TheVariants as sorts
use Rattle.ir_print.specs.Shapes.{parts_in, AreSaidAt, IsTypeSaid, IsAttributeSaid, SaysTypes, SaysAttributes, SaysOperations}
use Rattle.ir_print.specs.Shown.{Said, said_attribute, said_operands, said_successor, said_region, said_leaf, alone, ShowsAll, operands_said}
use Rattle.tiny_texts.specs.declared.dialect.Int.{Int}
use Rattle.tiny_texts.specs.declared.dialect.TinyAttr.{TinyAttr}
use Rattle.tiny_texts.specs.declared.dialect.TinyAttr.TheVariants as attrs
use Rattle.tiny_texts.specs.declared.dialect.Constant.{Constant}
use Rattle.tiny_texts.specs.declared.dialect.Constant.TheVariants as constants
use Rattle.tiny_texts.specs.declared.dialect.TinyOp.{TinyOp}
use Rattle.tiny_texts.specs.declared.dialect.TinyOp.TheVariants as ops
use Rattle.tiny_texts.specs.declared.operations.Form.{Form}
use Rattle.tiny_texts.specs.declared.operations.Form.TheVariants as forms
use Rattle.tiny_texts.specs.Forms.{form_of, number_of, read_ops, read_single, read_attrs, attr_number, steps_in, formats, op_kind, type_form, attr_form}
use Rattle.tiny_texts.specs.Kinds.{kind_of}
use Rattle.tiny_texts.specs.Says.{says, values, one, only, numbered, said_in, said_of_value, value_key, magnitude, leaf_of, said_of_attribute, is_number, number_in, used, fits, refused_unless, refused_as, refused_attribute, refused_operation, refused_by, refused_type, result_types, types_by}
use Rattle.tiny_texts.specs.Seen.{only_if, attribute_says, one_heard, none_heard}

-- the kinds with numbers have the formats with these numbers
pub operation_formats : (n : ℕ) → slice_get formats.operations n ≡ option_map op_kind (slice_get read_ops n)
operation_formats n = slice_get-map op_kind read_ops n

pub type_formats : (n : ℕ) → slice_get formats.types n ≡ option_map type_form (slice_get read_single n)
type_formats n = slice_get-map type_form read_single n

pub attribute_formats : (n : ℕ) → slice_get formats.attributes n ≡ option_map attr_form (slice_get read_attrs n)
attribute_formats n = slice_get-map attr_form read_attrs n

-- ---- the type and attributes

pub says_types : SaysTypes says formats values
says_types types key n us ps e h =
    let same = some_pair_parts 0 n no_tree us e in
    subst (λ (k : ℕ). IsTypeSaid says formats values k us ps) same.0
    (subst (λ (vs : Trees (Said Constant)). IsTypeSaid says formats values 0 vs ps) same.1 (record {
      kind = type_form (record {});
      at = refl;
      shaped = tt;
      read = ap (refused_type 0) (none_heard types ps (subst (λ (vs : Trees (Said Constant)). ShowsAll says types vs ps) (sym same.1) h));
    }))

-- the dialect has the piece of an attribute of at most 64 bits
pub used_leaf : (a : Constant) → nat_lt (magnitude a) (2 ^ 64) ≡ true → used (leaf (leaf_of a)) ≡ Some (leaf (leaf_of a))
used_leaf (constants.Num n) small = ap (λ (b : Bool). only b (Some (leaf (leaf_of (constants.Num n))))) small
used_leaf (constants.Ref n) small = ap (λ (b : Bool). only b (Some (leaf (leaf_of (constants.Ref n))))) small

-- what an attribute is shown by
pub attribute_heard : (types : List Int) (a : Constant) (ps : Pieces) → nat_lt (magnitude a) (2 ^ 64) ≡ true →
    ShowsAll says types (one (alone (said_leaf (leaf_of a)))) ps → (ts : Pieces) × (ps ≡ one (node (leaf (leaf_of a)) ts))
attribute_heard types a ps small h =
    let piece = one_heard types (said_leaf (leaf_of a)) (leaf (leaf_of a)) ps (used_leaf a small) h in
    (piece.0, piece.1)

-- an attribute of at most 64 bits has the shape of its kind's format, and is read
attribute_said : (a : Constant) (ts : Pieces) → nat_lt (magnitude a) (2 ^ 64) ≡ true →
    IsAttributeSaid says formats values (attr_number (kind_of a)) (one (alone (said_leaf (leaf_of a)))) (one (node (leaf (leaf_of a)) ts))
attribute_said (constants.Num n) ts small = record {
  kind = attr_form attrs.Num;
  at = refl;
  shaped = ((refl, ltb-true n (2 ^ 64) small), tt);
  read = ap (λ o. refused_unless (is_number (number_in attrs.Num o))) (used_leaf (constants.Num n) small);
  canonical = refl;
}
attribute_said (constants.Ref n) ts small = record {
  kind = attr_form attrs.Ref;
  at = refl;
  shaped = ((refl, ltb-true n (2 ^ 64) small), tt);
  read = ap (λ o. refused_unless (is_number (number_in attrs.Ref o))) (used_leaf (constants.Ref n) small);
  canonical = refl;
}

pub says_attributes : SaysAttributes says formats values
says_attributes types a n us ps e h =
    let said = attribute_says a n us e in
    let shown = subst (λ (vs : Trees (Said Constant)). ShowsAll says types vs ps) (sym said.2) h in
    let piece = attribute_heard types a ps said.0 shown in
    subst (λ (k : ℕ). IsAttributeSaid says formats values k us ps) said.1
    (subst (λ (vs : Trees (Said Constant)). IsAttributeSaid says formats values (attr_number (kind_of a)) vs ps) said.2
    (subst (λ (qs : Pieces). IsAttributeSaid says formats values (attr_number (kind_of a)) (one (alone (said_leaf (leaf_of a)))) qs) (sym piece.1)
    (attribute_said a piece.0 said.0)))

-- ---- operations

-- what is said in a form has its shape, and can be read
record FormSaid (form : Form) (count : ℕ) (us : Trees (Said Constant)) (ps : Pieces) : Type 0 where
  pub shaped : AreSaidAt (parts_in (steps_in form)) us
  pub read : fits form ps ≡ true
  pub operands : operands_said ps ≡ count

-- an operation that says a value has it
pub has_value : (o : Option Constant) (us : Trees (Said Constant)) → said_of_value o ≡ Some us → (a : Constant) × (o ≡ Some a) × (one (alone (said_attribute a)) ≡ us)
has_value (Some a) us e = (a, refl, same_Some (one (alone (said_attribute a))) us e)
has_value None us e = absurd (none-some us e)

form_said : (form : Form) (entries : List (List ℕ × Constant)) (count : ℕ) (us : Trees (Said Constant)) → said_in form entries count ≡ Some us →
    (types : List Int) (ps : Pieces) → ShowsAll says types us ps → FormSaid form count us ps
form_said forms.Region entries count us e types ps h =
    let said = only_if (length entries == 0 && count == 0) (Some (one (alone said_region))) us e in
    let us_is = same_Some (one (alone said_region)) us said.1 in
    let none = eqb-true count 0 (and_parts (length entries == 0) (count == 0) said.0).1 in
    let piece = one_heard types said_region region ps refl (subst (λ (vs : Trees (Said Constant)). ShowsAll says types vs ps) (sym us_is) h) in
    subst (λ (vs : Trees (Said Constant)). FormSaid forms.Region count vs ps) us_is
    (record { shaped = (refl, tt); read = ap (fits forms.Region) piece.1; operands = ap operands_said piece.1 ∙ sym none })
form_said forms.Value entries count us e types ps h =
    let said = only_if (length entries == 1 && count == 0) (said_of_value (attribute_at entries value_key)) us e in
    let value = has_value (attribute_at entries value_key) us said.1 in
    let none = eqb-true count 0 (and_parts (length entries == 1) (count == 0) said.0).1 in
    let piece = one_heard types (said_attribute value.0) (value_of_kind sorts.Attribute (attr_number (kind_of value.0))) ps refl (subst (λ (vs : Trees (Said Constant)). ShowsAll says types vs ps) (sym value.2) h) in
    subst (λ (vs : Trees (Said Constant)). FormSaid forms.Value count vs ps) value.2
    (record { shaped = (refl, tt); read = ap (fits forms.Value) piece.1; operands = ap operands_said piece.1 ∙ sym none })
form_said forms.Operand entries count us e types ps h =
    let said = only_if (length entries == 0 && count == 1) (Some (one (alone (said_operands 1)))) us e in
    let us_is = same_Some (one (alone (said_operands 1))) us said.1 in
    let single = eqb-true count 1 (and_parts (length entries == 0) (count == 1) said.0).1 in
    let piece = one_heard types (said_operands 1) (operands 1) ps refl (subst (λ (vs : Trees (Said Constant)). ShowsAll says types vs ps) (sym us_is) h) in
    subst (λ (vs : Trees (Said Constant)). FormSaid forms.Operand count vs ps) us_is
    (record { shaped = (refl, tt); read = ap (fits forms.Operand) piece.1; operands = ap operands_said piece.1 ∙ sym single })
form_said forms.Edge entries count us e types ps h =
    let said = only_if (length entries == 0) (Some (one (alone (said_successor count)))) us e in
    let us_is = same_Some (one (alone (said_successor count))) us said.1 in
    let piece = one_heard types (said_successor count) (successor count) ps refl (subst (λ (vs : Trees (Said Constant)). ShowsAll says types vs ps) (sym us_is) h) in
    let plain : count + 0 ≡ count = omega arith in
    subst (λ (vs : Trees (Said Constant)). FormSaid forms.Edge count vs ps) us_is
    (record { shaped = (refl, tt); read = ap (fits forms.Edge) piece.1; operands = ap operands_said piece.1 ∙ plain })
form_said forms.Nothing entries count us e types ps h =
    let said = only_if (length entries == 0 && count == 0) (Some no_tree) us e in
    let us_is = same_Some no_tree us said.1 in
    let none = eqb-true count 0 (and_parts (length entries == 0) (count == 0) said.0).1 in
    let pieces = none_heard types ps (subst (λ (vs : Trees (Said Constant)). ShowsAll says types vs ps) (sym us_is) h) in
    subst (λ (vs : Trees (Said Constant)). FormSaid forms.Nothing count vs ps) us_is
    (record { shaped = tt; read = ap (fits forms.Nothing) pieces; operands = ap operands_said pieces ∙ sym none })

-- what is said with a number
pub is_numbered : (k : ℕ) (said : Option (Trees (Said Constant))) (n : ℕ) (us : Trees (Said Constant)) → numbered k said ≡ Some (n, us) → (k ≡ n) × (said ≡ Some us)
is_numbered k (Some vs) n us e = let same = some_pair_parts k n vs us e in (same.0, ap Some same.1)
is_numbered k None n us e = absurd (none-some (n, us) e)

-- a kind has its number
kind_there : (kind : TinyOp) → slice_get read_ops (number_of kind) ≡ Some kind
kind_there ops.Box = refl
kind_there ops.Loop = refl
kind_there ops.Pure = refl
kind_there ops.Def = refl
kind_there ops.Id = refl
kind_there ops.Use = refl
kind_there ops.Br = refl
kind_there ops.Ret = refl

pub says_kinds : (kind : TinyOp) (entries : List (List ℕ × Constant)) (count : ℕ) (tys : List TypeHandle) (n : ℕ) (us : Trees (Said Constant)) →
    numbered (number_of kind) (said_in (form_of kind) entries count) ≡ Some (n, us) → slice_get read_ops n ≡ Some kind
says_kinds kind entries count tys n us e =
    subst (λ (k : ℕ). slice_get read_ops k ≡ Some kind) (is_numbered (number_of kind) (said_in (form_of kind) entries count) n us e).0 (kind_there kind)

pub says_operations : SaysOperations says formats values
says_operations types kind entries count tys n us ps e h =
    let here = says_kinds kind entries count tys n us e in
    let said = is_numbered (number_of kind) (said_in (form_of kind) entries count) n us e in
    let read = form_said (form_of kind) entries count us said.1 types ps h in
    record {
      kind = op_kind kind;
      at = operation_formats n ∙ ap (option_map op_kind) here;
      shaped = read.shaped;
      read = ap (λ (k : Option TinyOp). refused_by k ps) here ∙ ap refused_unless read.read;
      operands = read.operands;
    }

pub says_type_kinds : (key : Int) (n : ℕ) (us : Trees (Said Constant)) → ◌≡◌ {A = Option (ℕ × Trees (Said Constant))} (Some (0, no_tree)) (Some (n, us)) → slice_get read_single n ≡ Some (record {})
says_type_kinds key n us e = subst (λ (k : ℕ). slice_get read_single k ≡ Some (record {})) (some_pair_parts 0 n no_tree us e).0 refl

-- a kind of attributes has its number
attr_there : (kind : TinyAttr) → slice_get read_attrs (attr_number kind) ≡ Some kind
attr_there attrs.Num = refl
attr_there attrs.Ref = refl

pub says_attr_kinds : (a : Constant) (n : ℕ) (us : Trees (Said Constant)) → said_of_attribute a ≡ Some (n, us) → slice_get read_attrs n ≡ Some (kind_of a)
says_attr_kinds a n us e = subst (λ (k : ℕ). slice_get read_attrs k ≡ Some (kind_of a)) (attribute_says a n us e).1 (attr_there (kind_of a))

-- ---- numbers that no kind has

pub unknown_type : (n : ℕ) (ps : Pieces) → slice_get read_single n ≡ None → refused_type n ps ≡ Some 0
unknown_type zero ps h = absurd (true≢false (ap is_some h))
unknown_type (suc n) ps h = refl

pub unknown_attribute : (n : ℕ) (ps : Pieces) → slice_get read_attrs n ≡ None → refused_attribute n ps ≡ Some 0
unknown_attribute n ps h = ap (λ k. refused_as k ps) h

pub unknown_operation : (n : ℕ) (ps : Pieces) → slice_get read_ops n ≡ None → (refused_operation n ps ≡ Some 0) × (result_types n ps ≡ [])
unknown_operation n ps h = (ap (λ k. refused_by k ps) h, ap types_by h)
