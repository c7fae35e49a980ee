-- What the pieces of an operation tell of its attributes.
use Rattle.std.proofs.Common.{◌≡◌, inl, inr, ℕ, zero, suc, Bool, true, false, cond, ◌&&◌, List, [], ◌∷◌, length}
use Rattle.std.proofs.Common.{Option, Some, None}
use Rattle.std.proofs.Common.{option_and_then, refl, sym, ap, ◌∙◌, subst, arith, ◌^◌, ⊎_elim}
use Rattle.std.specs.Prelude.{Vec, ◌==◌, ◌+◌, nat_lt, bytes_eq, slice_index}
use Rattle.std.specs.Global.{Global}
use Rattle.std.proofs.lemmas.Bool.{false≢true}
use Rattle.std.proofs.lemmas.Bool.Decides.{Decides-eqb}
use Rattle.std.proofs.lemmas.Option.{none-some, same_Some, some_pair_parts}
use Rattle.std.proofs.lemmas.Slice.Eq.{bytes_eq-Decides}
use Rattle.ir_base.specs.declared.types.TypeHandle.{TypeHandle}
use Rattle.ir_names.specs.Dictionary.{attribute_at}
use Rattle.ir_names.specs.Identifier.{text_of}
use Rattle.ir_names.specs.Tree.{LabelledTree, Trees, node, no_tree, a_tree}
use Rattle.ir_print.specs.Pieces.{leaf, name, number, width, value_of_kind, ValueTree, Pieces}
use Rattle.ir_print.specs.Shown.{Said, said_type, said_attribute, said_leaf, said_operands, said_successor, said_region}
use Rattle.ir_print.specs.Shown.{alone, ShowsAll, ShowsType}
use Rattle.kit_ops.specs.declared.attributes.IntegerAttr.{IntegerAttr}
use Rattle.kit_ops.specs.declared.attributes.KitAttr.{KitAttr}
use Rattle.kit_ops.specs.declared.attributes.KitAttr.TheVariants as attrs
use Rattle.kit_ops.specs.declared.attributes.keys.TheConstants.{SYMBOL_NAME, FUNCTION_TYPE, CONSTANT_VALUE}
use Rattle.kit_ops.specs.declared.attributes.keys.TheConstants.{CALLEE, CALLEE_TYPE, SEGMENT_SIZES}
use Rattle.kit_ops.specs.declared.kinds.KitOp.{KitOp}
use Rattle.kit_ops.specs.declared.kinds.KitOp.TheVariants as ops
use Rattle.kit_ops.specs.declared.types.IntegerType.{IntegerType}
use Rattle.kit_ops.specs.declared.types.KitType.{KitType}
use Rattle.kit_ops.specs.Keys.{symbol_name, function_type, constant_value, callee, callee_type, segment_sizes}
use Rattle.kit.specs.Meaning.{is_function, first_size, sizes_in as sizes_of}
use Rattle.kit_checks.specs.Rules.{IsOwnKey, MayHave}
use Rattle.kit_checks.specs.Words.{Every, identifier_in, is_cond_br, sizes_in, type_in}
use Rattle.kit.specs.Forms.{OpForm, NamedRegion, TypedRegion, Value, TwoOperands, OneOperand, AnyOperands}
use Rattle.kit.specs.Forms.{Empty, Called, Edge, ConditionEdges, form_of}
use Rattle.kit.specs.Numbers.{printed_number}
use Rattle.kit.specs.Says.{says, one, two, only, has_values, integer_said, said_of_attribute, said_of_module}
use Rattle.kit.specs.Says.{said_of_function}
use Rattle.kit.specs.Says.{said_of_constant, said_of_pair, said_of_call, call_said, condition_said, said_of_condition, said_in}
use Rattle.kit.specs.Readable.{constant_says, call_says, condition_says}
use Rattle.kit.specs.Seen.{first_seen, one_seen, two_seen, three_seen}
use Rattle.kit_views.specs.Reading.{number_in}
use Rattle.kit_text_programs.proofs.SaidHeads.{said_parts, bits_shown}
use Rattle.kit_text_programs.proofs.SaidPrograms.{name_said, bits_said, sizes_read}
use Rattle.ir_print.specs.declared.format.ValueSort.TheVariants as sorts
use Rattle.kit_text_programs.proofs.SaidTexts.AttributeMaps.{either_key, two_at}

abbrev pub Entries : Type 0
Entries = List (List ℕ × KitAttr)

abbrev pub SaidTrees : Type 0
SaidTrees = Trees (Said KitAttr)

-- ---- entries

and_left : (b c : Bool) → (b && c) ≡ true → b ≡ true
and_left true c e = refl
and_left false c e = absurd (false≢true e)

only_some : {X : Type 0} (b : Bool) (o : Option X) (x : X) → only b o ≡ Some x → (b ≡ true) × (o ≡ Some x)
only_some true o x e = (refl, e)
only_some false o x e = absurd (none-some x e)

no_entries : (es : Entries) → (length es == 0) ≡ true → es ≡ []
no_entries [] e = refl
no_entries (x ∷ es) e = let l = (Decides-eqb (length (x ∷ es)) 0).0 e in absurd (omega arith)

last_entry : (key k : List ℕ) (v a : KitAttr) → attribute_at ((k, v) ∷ []) key ≡ Some a → (key ≡ k) × (v ≡ a)
last_entry key k v a e = by (bytes_eq key k) refl e
  where
    by : (b : Bool) → bytes_eq key k ≡ b → cond b (Some v) None ≡ Some a → (key ≡ k) × (v ≡ a)
    by true t q = ((bytes_eq-Decides key k).0 t, same_Some v a q)
    by false t q = absurd (none-some a q)

one_entry : (es : Entries) (key : List ℕ) (a : KitAttr) → (length es == 1) ≡ true → attribute_at es key ≡ Some a
    → es ≡ (key, a) ∷ []
one_entry [] key a l e = absurd (none-some a e)
one_entry ((k, v) ∷ []) key a l e =
    let same = last_entry key k v a e in
    ap (λ (c : KitAttr). (k, c) ∷ []) same.1 ∙ ap (λ (c : List ℕ). (c, a) ∷ []) (sym same.0)
one_entry (x ∷ y ∷ es) key a l e = let n = (Decides-eqb (length (x ∷ y ∷ es)) 1).0 l in absurd (omega arith)

-- ---- lists

none_every : {X : Type 0} (P : X → Type 0) → Every P []
none_every P k x at = cc

front_every : {X : Type 0} (P : X → Type 0) (y : X) (ys : List X) → P y → Every P ys → Every P (y ∷ ys)
front_every P y ys p all zero x at = let o : Some y ≡ Some x = at in let same : y ≡ x = cc in subst P same p
front_every P y ys p all (suc k) x at = all k x at

-- the keys of a function and of a call
function_keys : symbol_name ≡ function_type → ⊥
function_keys e = false≢true ((bytes_eq-Decides symbol_name function_type).1 e)

call_keys : callee ≡ callee_type → ⊥
call_keys e = false≢true ((bytes_eq-Decides callee callee_type).1 e)

-- two attributes under two keys of a kind are its own
two_own : (k : KitOp) (p q : List ℕ) → IsOwnKey k p → IsOwnKey k q → (p ≡ q → ⊥) → (es : Entries) (a b : KitAttr)
    → (length es == 2) ≡ true → attribute_at es p ≡ Some a → attribute_at es q ≡ Some b → Every (MayHave k) es
two_own k p q own owns apart [] a b l e f = absurd (none-some a e)
two_own k p q own owns apart (x ∷ []) a b l e f = let n = (Decides-eqb (length (x ∷ [])) 2).0 l in absurd (omega arith)
two_own k p q own owns apart (x ∷ y ∷ z ∷ es) a b l e f =
    let n = (Decides-eqb (length (x ∷ y ∷ z ∷ es)) 2).0 l in absurd (omega arith)
two_own k p q own owns apart ((c, v) ∷ (d, u) ∷ []) a b l e f =
    ⊎_elim (λ first. ⊎_elim (λ clash. absurd (apart (first ∙ sym clash))) (λ second. both
    (subst (IsOwnKey k) first own) (subst (IsOwnKey k) second owns)) (either_key q c d v u b f))
    (λ second. ⊎_elim (λ first. both (subst (IsOwnKey k) first owns) (subst (IsOwnKey k) second own))
    (λ clash. absurd (apart (second ∙ sym clash))) (either_key q c d v u b f)) (either_key p c d v u a e)
  where
    both : IsOwnKey k c → IsOwnKey k d → Every (MayHave k) ((c, v) ∷ (d, u) ∷ [])
    both x y = front_every (MayHave k) (c, v) ((d, u) ∷ []) (inl x)
        (front_every (MayHave k) (d, u) [] (inl y) (none_every (MayHave k)))

-- ---- what is read

abbrev is_constant : KitOp → Bool
is_constant ops.Constant = true
is_constant _ = false

abbrev is_call : KitOp → Bool
is_call ops.Call = true
is_call _ = false

-- the name of a module or of a function
abbrev pub name_read : KitOp → Pieces → Option (List ℕ)
name_read ops.Module ps = Some (name_said ps)
name_read ops.Func ps = Some (name_said ps)
name_read _ ps = None

-- the type behind the name of a function
abbrev pub type_read : Pieces → Option ValueTree
type_read (a_tree p (a_tree t ps)) = Some t
type_read _ = None

-- the type behind the operands of a call
abbrev pub callee_read : Pieces → Option ValueTree
callee_read (a_tree p (a_tree q (a_tree t ps))) = Some t
callee_read _ = None

-- the integer type of a constant
abbrev pub integer_read : Pieces → Option IntegerType
integer_read (a_tree (node l (a_tree p (a_tree (node (leaf (width s w)) vs) ws))) ts) =
    Some (record { signedness = s; width = w })
integer_read _ = None

-- what the pieces of an operation of a kind, with these attributes and results of these types, tell of it
pub record IsRead (keys : List KitType) (k : KitOp) (es : Entries) (tys : List TypeHandle) (ps : Pieces) : Type 0 where
  pub names : option_and_then identifier_in (attribute_at es SYMBOL_NAME.now) ≡ name_read k ps
  pub types : k ≡ ops.Func → (ty : TypeHandle) × (t : ValueTree) × ShowsType says keys ty t × (type_read ps ≡ Some t)
      × (option_and_then type_in (attribute_at es FUNCTION_TYPE.now) ≡ Some ty)
  pub valued : k ≡ ops.Constant → (v : IntegerAttr) × (attribute_at es CONSTANT_VALUE.now ≡ Some (attrs.Integer v))
      × (v.bits ≡ bits_said ps) × (integer_read ps ≡ Some v.integer) × (tys ≡ v.ty ∷ [])
  pub own : Every (MayHave k) es
  pub called : k ≡ ops.Call → (ty : TypeHandle) × (t : ValueTree) × ShowsType says keys ty t × (callee_read ps ≡ Some t)
      × (option_and_then type_in (attribute_at es CALLEE_TYPE.now) ≡ Some ty)
      × (option_and_then identifier_in (attribute_at es CALLEE.now) ≡ Some (name_said ps))
  pub sizes : k ≡ ops.CondBr → option_and_then sizes_in (attribute_at es SEGMENT_SIZES.now) ≡ sizes_read ps

-- the pieces of a conditional branch tell what its edges hand on
pub edges_shown : (keys : List KitType) (a b : ℕ) (ps : Pieces) → ShowsAll says keys (condition_said a b) ps
    → sizes_read ps ≡ Some (1 ∷ a ∷ b ∷ [])
edges_shown keys a b ps h =
    let k = three_seen says keys (alone (said_operands 1)) (alone (said_successor a)) (alone (said_successor b)) ps h in
    ap sizes_read (k.3
    ∙ (λ i. a_tree (k.4.1 i) (a_tree (k.5.1 i) (a_tree (k.6.1 i) no_tree))))

module _ (keys : List KitType) (es : Entries) (n : ℕ) (tys : List TypeHandle) (kind : ℕ) (said : SaidTrees)
    (ps : Pieces)
    (shown : ShowsAll says keys said ps) where
  said_as : (k : KitOp) (form : OpForm) → says.of_operation k es n tys ≡ Some (kind, said) → form_of k ≡ Some form
      → said_in form es n tys ≡ Some said
  said_as k form e is =
      let parts = said_parts k es n tys kind said e in
      let same : parts.0 ≡ form = same_Some parts.0 form (sym parts.1 ∙ is) in
      subst (λ f. said_in f es n tys ≡ Some said) same parts.3

  name_first : (cs : List ℕ) (us : SaidTrees) → ShowsAll says keys (a_tree (alone (said_leaf (name cs))) us) ps
      → Some cs ≡ Some (name_said ps)
  name_first cs us h =
      let k = first_seen says keys (alone (said_leaf (name cs))) us ps h in
      ap Some (sym (ap name_said k.2 ∙ ap (λ (t : ValueTree). name_said (a_tree t k.1)) k.3.1))

  -- an operation without attributes
  bare : (k : KitOp) → is_function k ≡ false → is_constant k ≡ false → is_call k ≡ false → is_cond_br k ≡ false
      → None ≡ name_read k ps → (length es == 0) ≡ true → IsRead keys k es tys ps
  bare k f c g d e none =
      let empty = no_entries es none in
      record {
        names = ap (λ (x : Entries). option_and_then identifier_in (attribute_at x SYMBOL_NAME.now)) empty ∙ e;
        types = λ is. absurd (false≢true (sym f ∙ ap is_function is));
        valued = λ is. absurd (false≢true (sym c ∙ ap is_constant is));
        own = subst (Every (MayHave k)) (sym empty) (none_every (MayHave k));
        called = λ is. absurd (false≢true (sym g ∙ ap is_call is));
        sizes = λ is. absurd (false≢true (sym d ∙ ap is_cond_br is));
      }

  module_read : (o : Option KitAttr) → attribute_at es symbol_name ≡ o → (length es == 1) ≡ true
      → said_of_module o ≡ Some said → IsRead keys ops.Module es tys ps
  module_read None at l e = absurd (none-some said e)
  module_read (Some (attrs.Identifier id)) at l e =
      let same = same_Some (two (alone (said_leaf (name (text_of id)))) (alone said_region)) said e in
      record {
        names = ap (option_and_then identifier_in) at ∙ name_first (text_of id) (one (alone said_region))
            (subst (λ (z : SaidTrees). ShowsAll says keys z ps) (sym same) shown);
        types = λ is. absurd (false≢true (ap is_function is));
        valued = λ is. absurd (false≢true (ap is_constant is));
        own = subst (Every (MayHave ops.Module)) (sym (one_entry es symbol_name (attrs.Identifier id) l at))
            (front_every (MayHave ops.Module) (symbol_name, attrs.Identifier id) [] (inl refl)
            (none_every (MayHave ops.Module)));
        called = λ is. absurd (false≢true (ap is_call is));
        sizes = λ is. absurd (false≢true (ap is_cond_br is));
      }
  module_read (Some (attrs.Integer a)) at l e = absurd (none-some said e)
  module_read (Some (attrs.«Type» a)) at l e = absurd (none-some said e)
  module_read (Some (attrs.SegmentSizes a)) at l e = absurd (none-some said e)
  module_read (Some (attrs.GivenNames a)) at l e = absurd (none-some said e)
  module_read (Some (attrs.Note a)) at l e = absurd (none-some said e)
  module_read (Some (attrs.Origin a)) at l e = absurd (none-some said e)

  -- the handle of a type is shown by the second piece
  second_type : (cs : List ℕ) (ty : TypeHandle)
      → ShowsAll says keys (a_tree (alone (said_leaf (name cs))) (two (alone (said_type ty)) (alone said_region))) ps
      → (t : ValueTree) × ShowsType says keys ty t × (type_read ps ≡ Some t)
  second_type cs ty h =
      let k = three_seen says keys (alone (said_leaf (name cs))) (alone (said_type ty)) (alone said_region) ps h in
      (k.1, subst (ShowsType says keys ty) (sym k.5.2) k.5.3, ap type_read k.3)

  typed_read : (o p : Option KitAttr) → attribute_at es symbol_name ≡ o → attribute_at es function_type ≡ p
      → (length es == 2) ≡ true → said_of_function o p ≡ Some said → IsRead keys ops.Func es tys ps
  typed_read (Some (attrs.Identifier id)) (Some (attrs.«Type» ty)) at there l e =
      let same = same_Some (a_tree (alone (said_leaf (name (text_of id)))) (two (alone (said_type ty))
      (alone said_region))) said e in
      let all = subst (λ (z : SaidTrees). ShowsAll says keys z ps) (sym same) shown in
      let type = second_type (text_of id) ty all in
      record {
        names = ap (option_and_then identifier_in) at ∙ name_first (text_of id) (two (alone (said_type ty))
            (alone said_region)) all;
        types = λ is. (ty, type.0, type.1, type.2, ap (option_and_then type_in) there);
        valued = λ is. absurd (false≢true (ap is_constant is));
        own = two_own ops.Func symbol_name function_type (inl refl) (inr refl) function_keys es (attrs.Identifier id)
            (attrs.«Type» ty) l at there;
        called = λ is. absurd (false≢true (ap is_call is));
        sizes = λ is. absurd (false≢true (ap is_cond_br is));
      }
  typed_read None p at there l e = absurd (none-some said e)
  typed_read (Some (attrs.Integer a)) p at there l e = absurd (none-some said e)
  typed_read (Some (attrs.«Type» a)) p at there l e = absurd (none-some said e)
  typed_read (Some (attrs.SegmentSizes a)) p at there l e = absurd (none-some said e)
  typed_read (Some (attrs.GivenNames a)) p at there l e = absurd (none-some said e)
  typed_read (Some (attrs.Note a)) p at there l e = absurd (none-some said e)
  typed_read (Some (attrs.Origin a)) p at there l e = absurd (none-some said e)
  typed_read (Some (attrs.Identifier id)) None at there l e = absurd (none-some said e)
  typed_read (Some (attrs.Identifier id)) (Some (attrs.Identifier a)) at there l e = absurd (none-some said e)
  typed_read (Some (attrs.Identifier id)) (Some (attrs.Integer a)) at there l e = absurd (none-some said e)
  typed_read (Some (attrs.Identifier id)) (Some (attrs.SegmentSizes a)) at there l e = absurd (none-some said e)
  typed_read (Some (attrs.Identifier id)) (Some (attrs.GivenNames a)) at there l e = absurd (none-some said e)
  typed_read (Some (attrs.Identifier id)) (Some (attrs.Note a)) at there l e = absurd (none-some said e)
  typed_read (Some (attrs.Identifier id)) (Some (attrs.Origin a)) at there l e = absurd (none-some said e)

  -- ---- constants

  attr_same : (a b : KitAttr) → ◌≡◌ {A = LabelledTree (Said KitAttr)} (alone (said_attribute a)) (alone (said_attribute b))
      → a ≡ b
  attr_same a b e = cc

  width_read : (a : IntegerAttr) (m : ℕ) (ts : Pieces)
      → ShowsAll says keys (integer_said a.integer.signedness a.integer.width (printed_number a)) ts
      → integer_read (a_tree (node (value_of_kind sorts.Attribute m) ts) no_tree) ≡ Some a.integer
  width_read a m ts h =
      let x = printed_number a in
      let k = two_seen says keys (alone (said_leaf (number x.is_negative x.magnitude)))
      (alone (said_leaf (width a.integer.signedness a.integer.width))) ts h in
      ap (λ (us : Pieces). integer_read (a_tree (node (value_of_kind sorts.Attribute m) us) no_tree)) k.2
      ∙ ap (λ (t : ValueTree). integer_read (a_tree (node (value_of_kind sorts.Attribute m) (a_tree k.0
      (a_tree t no_tree))) no_tree)) k.4.1

  attribute_read : (a : IntegerAttr) (m : ℕ) (us : SaidTrees) (ts : Pieces)
      → said_of_attribute (attrs.Integer a) ≡ Some (m, us) → ShowsAll says keys us ts
      → integer_read (a_tree (node (value_of_kind sorts.Attribute m) ts) no_tree) ≡ Some a.integer
  attribute_read a m us ts e h =
      let said : SaidTrees = integer_said a.integer.signedness a.integer.width (printed_number a) in
      let kept = only_some {X = ℕ × SaidTrees} (has_values a.integer.width && nat_lt a.bits (2 ^ a.integer.width))
      (Some (0, said)) (m, us) e in
      let parts = some_pair_parts 0 m said us kept.1 in
      width_read a m ts (subst (λ (z : SaidTrees). ShowsAll says keys z ts) (sym parts.1) h)

  value_piece : (a : IntegerAttr) → ShowsAll says keys (one (alone (said_attribute (attrs.Integer a)))) ps
      → integer_read ps ≡ Some a.integer
  value_piece a h =
      let k = one_seen says keys (alone (said_attribute (attrs.Integer a))) ps h in
      let inside = k.2.3 in
      let same : attrs.Integer a ≡ inside.0 = attr_same (attrs.Integer a) inside.0 inside.2 in
      let said : said_of_attribute (attrs.Integer a) ≡ Some (k.2.0, inside.1) = ap said_of_attribute same ∙ inside.3 in
      ap integer_read (k.1 ∙ ap (λ (t : ValueTree). a_tree t no_tree) k.2.2)
      ∙ attribute_read a k.2.0 inside.1 k.2.1 said inside.4

  constant_read : (o : Option KitAttr) → attribute_at es constant_value ≡ o → (length es == 1) ≡ true
      → said_of_constant o tys ≡ Some said → number_in o ≡ bits_said ps → IsRead keys ops.Constant es tys ps
  constant_read o at l e bits =
      let is = constant_says o tys said e in
      let there : attribute_at es constant_value ≡ Some (attrs.Integer is.value) = at ∙ is.has in
      let shows = subst (λ (z : SaidTrees). ShowsAll says keys z ps) (sym is.says_it) shown in
      let entries = one_entry es constant_value (attrs.Integer is.value) l there in
      record {
        names = ap (λ (x : Entries). option_and_then identifier_in (attribute_at x SYMBOL_NAME.now)) entries;
        types = λ f. absurd (false≢true (ap is_function f));
        valued = λ k. (is.value, there, ap number_in (sym is.has) ∙ bits, value_piece is.value shows, is.result);
        own = subst (Every (MayHave ops.Constant)) (sym entries)
            (front_every (MayHave ops.Constant) (constant_value, attrs.Integer is.value) [] (inl refl)
            (none_every (MayHave ops.Constant)));
        called = λ f. absurd (false≢true (ap is_call f));
        sizes = λ f. absurd (false≢true (ap is_cond_br f));
      }

  -- ---- calls

  -- the handle of a type is shown by the third piece
  third_type : (cs : List ℕ) (ty : TypeHandle) → ShowsAll says keys (call_said cs ty n) ps
      → (t : ValueTree) × ShowsType says keys ty t × (callee_read ps ≡ Some t)
  third_type cs ty h =
      let k = three_seen says keys (alone (said_leaf (name cs))) (alone (said_operands n)) (alone (said_type ty)) ps h in
      (k.2, subst (ShowsType says keys ty) (sym k.6.2) k.6.3, ap callee_read k.3)

  call_read : (length es == 2) ≡ true
      → said_of_call (attribute_at es callee) (attribute_at es callee_type) n ≡ Some said
      → IsRead keys ops.Call es tys ps
  call_read l e =
      let call = call_says (attribute_at es callee) (attribute_at es callee_type) n said e in
      let all = subst (λ (z : SaidTrees). ShowsAll says keys z ps) (sym call.says_it) shown in
      let type = third_type (text_of call.name) call.type all in
      let count = (Decides-eqb (length es) 2).0 l in
      record {
        names = ap (option_and_then identifier_in) (two_at es callee callee_type (attrs.Identifier call.name)
            (attrs.«Type» call.type) count call_keys call.has_name call.has_type symbol_name);
        types = λ is. absurd (false≢true (ap is_function is));
        valued = λ is. absurd (false≢true (ap is_constant is));
        own = two_own ops.Call callee callee_type (inl refl) (inr refl) call_keys es (attrs.Identifier call.name)
            (attrs.«Type» call.type) l call.has_name call.has_type;
        called = λ is. (
          call.type,
          type.0,
          type.1,
          type.2,
          ap (option_and_then type_in) call.has_type,
          ap (option_and_then identifier_in) call.has_name
              ∙ name_first (text_of call.name) (two (alone (said_operands n)) (alone (said_type call.type))) all,
        );
        sizes = λ is. absurd (false≢true (ap is_cond_br is));
      }

  -- ---- conditional branches

  condition_read : (length es == 1) ≡ true → said_of_condition (attribute_at es segment_sizes) n ≡ Some said
      → IsRead keys ops.CondBr es tys ps
  condition_read l e =
      let condition = condition_says (attribute_at es segment_sizes) n said e in
      let sizes = condition.say in
      let all = subst (λ (z : SaidTrees). ShowsAll says keys z ps) (sym sizes.says_it) shown in
      let entries = one_entry es segment_sizes (attrs.SegmentSizes condition.sizes) l condition.has_sizes in
      record {
        names = ap (λ (x : Entries). option_and_then identifier_in (attribute_at x SYMBOL_NAME.now)) entries;
        types = λ is. absurd (false≢true (ap is_function is));
        valued = λ is. absurd (false≢true (ap is_constant is));
        own = subst (Every (MayHave ops.CondBr)) (sym entries)
            (front_every (MayHave ops.CondBr) (segment_sizes, attrs.SegmentSizes condition.sizes) [] (inl refl)
            (none_every (MayHave ops.CondBr)));
        called = λ is. absurd (false≢true (ap is_call is));
        sizes = λ is. ap (option_and_then sizes_in) condition.has_sizes ∙ ap Some sizes.are
            ∙ sym (edges_shown keys sizes.first sizes.second ps all);
      }

  -- what an operation says tells this of its attributes
  pub read : (k : KitOp) → says.of_operation k es n tys ≡ Some (kind, said) → IsRead keys k es tys ps
  read ops.Module e =
      let kept = only_some (length es == 1 && n == 0) (said_of_module (attribute_at es symbol_name)) said
      (said_as ops.Module NamedRegion e refl) in
      module_read (attribute_at es symbol_name) refl (and_left (length es == 1) (n == 0) kept.0) kept.1
  read ops.Func e =
      let kept = only_some (length es == 2 && n == 0)
      (said_of_function (attribute_at es symbol_name) (attribute_at es function_type)) said
      (said_as ops.Func TypedRegion e refl) in
      typed_read (attribute_at es symbol_name) (attribute_at es function_type) refl refl
      (and_left (length es == 2) (n == 0) kept.0) kept.1
  read ops.Constant e =
      let kept = only_some (length es == 1 && n == 0) (said_of_constant (attribute_at es constant_value) tys) said
      (said_as ops.Constant Value e refl) in
      constant_read (attribute_at es constant_value) refl (and_left (length es == 1) (n == 0) kept.0) kept.1
      (bits_shown keys ops.Constant es n tys kind said ps e shown refl)
  read (ops.Arithmetic a) e =
      let kept = only_some (length es == 0 && n == 2) (said_of_pair tys) said (said_as
      (ops.Arithmetic a) TwoOperands e refl) in
      bare (ops.Arithmetic a) refl refl refl refl refl (and_left (length es == 0) (n == 2) kept.0)
  read (ops.Comparison a) e =
      let kept = only_some (length es == 0 && n == 2) (said_of_pair tys) said (said_as
      (ops.Comparison a) TwoOperands e refl) in
      bare (ops.Comparison a) refl refl refl refl refl (and_left (length es == 0) (n == 2) kept.0)
  read ops.Emit e =
      let kept = only_some (length es == 0 && n == 1) _ said (said_as ops.Emit OneOperand e refl) in
      bare ops.Emit refl refl refl refl refl (and_left (length es == 0) (n == 1) kept.0)
  read ops.Return e =
      let kept = only_some (length es == 0) _ said (said_as ops.Return AnyOperands e refl) in
      bare ops.Return refl refl refl refl refl kept.0
  read ops.Br e =
      let kept = only_some (length es == 0) _ said (said_as ops.Br Edge e refl) in
      bare ops.Br refl refl refl refl refl kept.0
  read ops.CondBr e =
      let kept = only_some (length es == 1) (said_of_condition (attribute_at es segment_sizes) n) said
      (said_as ops.CondBr ConditionEdges e refl) in
      condition_read kept.0 kept.1
  read ops.Call e =
      let kept = only_some (length es == 2) (said_of_call (attribute_at es callee) (attribute_at es callee_type) n) said
      (said_as ops.Call Called e refl) in
      call_read kept.0 kept.1
  read ops.ForwardRef e =
      let kept = only_some (length es == 0 && n == 0) _ said (said_as ops.ForwardRef Empty e refl) in
      bare ops.ForwardRef refl refl refl refl refl (and_left (length es == 0) (n == 0) kept.0)

-- a conditional branch has sizes of three segments, which its pieces tell, and as many operands as they add up to
pub record HasShownSizes (es : Entries) (n : ℕ) (ps : Pieces) : Type 0 where
  pub sizes : Vec ℕ Global
  pub first : ℕ
  pub second : ℕ
  pub has : attribute_at es segment_sizes ≡ Some (attrs.SegmentSizes sizes)
  pub are : sizes.items ≡ 1 ∷ first ∷ second ∷ []
  pub first_is : first_size es ≡ first
  pub told : sizes_read ps ≡ Some (1 ∷ first ∷ second ∷ [])
  pub adds_up : 1 + (first + second) ≡ n

pub sizes_shown : (keys : List KitType) (k : KitOp) (es : Entries) (n : ℕ) (tys : List TypeHandle) (kind : ℕ)
    (said : SaidTrees) (ps : Pieces) → says.of_operation k es n tys ≡ Some (kind, said) → ShowsAll says keys said ps
    → k ≡ ops.CondBr → HasShownSizes es n ps
sizes_shown keys k es n tys kind said ps e h is =
    let parts = said_parts k es n tys kind said e in
    let form : parts.0 ≡ ConditionEdges = same_Some parts.0 ConditionEdges (sym parts.1 ∙ ap form_of is) in
    let kept = only_some (length es == 1) (said_of_condition (attribute_at es segment_sizes) n) said
    (subst (λ f. said_in f es n tys ≡ Some said) form parts.3) in
    let condition = condition_says (attribute_at es segment_sizes) n said kept.1 in
    let say = condition.say in
    record {
      sizes = condition.sizes;
      first = say.first;
      second = say.second;
      has = condition.has_sizes;
      are = say.are;
      first_is = ap (λ o. slice_index (sizes_of o) 1) condition.has_sizes ∙ ap (λ zs. slice_index zs 1) say.are;
      told = edges_shown keys say.first say.second ps (subst (λ (z : SaidTrees). ShowsAll says keys z ps) (sym say.says_it) h);
      adds_up = say.adds_up;
    }
