-- What operations are made with, of their parts.
use Rattle.std.proofs.Common.{◌≡◌, ℕ, zero, suc, ◌+◌, Bool, true, false, cond, ◌&&◌, ◌⊎◌, inl, inr, List, [], ◌∷◌, length, Option, Some, None, option_map, option_and_then, Vec, Global, nat_le, nat_lt, ◌==◌, ◌^◌, refl, sym, ap, ◌∙◌, subst, arith}
use Rattle.std.proofs.lemmas.Bool.{and_parts, eqb-true, eq-eqb, leb-true, lt-ltb}
use Rattle.std.specs.List.{slice_get}
use Rattle.ir_base.specs.declared.types.TypeHandle.{TypeHandle}
use Rattle.ir_names.specs.declared.kinds.Signedness.{Signedness}
use Rattle.ir_names.specs.declared.identifier.Identifier.{Identifier}
use Rattle.ir_names.specs.Identifier.{text_of}
use Rattle.ir_names.specs.Tree.{LabelledTree, Trees, node, no_tree, a_tree}
use Rattle.ir_print.specs.declared.format.Part.{Part}
use Rattle.ir_print.specs.Pieces.{list, item, leaf, width, value_of_kind, region, name, operands, successor, ValueTree, Pieces, chosen}
use Rattle.ir_print.specs.Shown.{Said, said_leaf, said_type, said_attribute, Shows, Pairs, said_region, said_operands, said_successor, alone, ShowsAll, ShowsPart, ShowsType}
use Rattle.kit_ops.specs.declared.kinds.KitOp.{KitOp}
use Rattle.kit_ops.specs.Keys.{symbol_name, function_type, constant_value, callee, callee_type, segment_sizes}
use Rattle.kit.specs.Forms.{OpForm, NamedRegion, TypedRegion, Value, TwoOperands, OneOperand, AnyOperands, Empty, Called, Edge, ConditionEdges}
use Rattle.kit_ops.specs.declared.types.IntegerType.{IntegerType}
use Rattle.kit_ops.specs.declared.types.KitType.{KitType}
use Rattle.kit_ops.specs.declared.types.KitType.TheVariants as keys
use Rattle.kit_ops.specs.declared.attributes.IntegerAttr.{IntegerAttr}
use Rattle.kit_ops.specs.declared.attributes.KitAttr.{KitAttr}
use Rattle.kit_ops.specs.declared.attributes.KitAttr.TheVariants as attrs
use Rattle.kit.specs.Parts.{type_part, name_part, region_part, attribute_part, operands_part, successor_part, is_one_operand, integer_of}
use Rattle.kit.specs.Numbers.{printed_number}
use Rattle.kit.specs.Says.{says, one, two, only, has_values, integer_said, said_of_attribute, integer_types, is_integer, is_name, is_type, is_region, are_operands, is_operand, is_edge, call_said, condition_said, said_of_sizes, refused_unless, refused_in}
use Rattle.kit.specs.Making.{one_integer, module_name, function_header, one_operands, pair_type, call_header, one_edge, edge_counts, returned_by, FormDrafts, MakesForm, RefusesForm}
use Rattle.kit.specs.Readable.{attribute_by, constant_said_so}
use Rattle.kit.specs.Seen.{seen}
use Rattle.kit.proofs.Shapes.{name_shown, not_name, region_shown, not_region, type_shown, not_type, operands_shown, not_operands, operand_shown, not_operand, successor_shown, not_successor, one_shown, two_shown, three_shown, not_one, not_two, not_three_pieces, attribute_shown}
use Rattle.kit.proofs.Made.{and_false}
use Rattle.ir_print.specs.declared.format.ValueSort.TheVariants as sorts
use Rattle.kit.proofs.Returned.{returned_shown}

abbrev name_piece : List ℕ → Said KitAttr
name_piece cs = said_leaf (name cs)

not_true : (b : Bool) → (b ≡ true → ⊥) → b ≡ false
not_true true n = absurd (n refl)
not_true false n = refl

-- a region beside a value
beside : {X Y : Type 0} (o : Option X) (p : Option Y) (y : Y) → option_and_then (λ _. p) o ≡ Some y → (x : X) × (o ≡ Some x) × (p ≡ Some y)
beside (Some x) p y e = (x, refl, e)
beside None p y e = cc

not_beside : {X Y : Type 0} (o : Option X) (p : Option Y) → option_and_then (λ _. p) o ≡ None → (o ≡ None) ⊎ (p ≡ None)
not_beside (Some x) p e = inr e
not_beside None p e = inl refl

abbrev pair_of : {X Y : Type 0} → X → Y → X × Y
pair_of x y = (x, y)

-- a value of three options
all_three : {X Y Z : Type 0} (o : Option X) (p : Option Y) (q : Option Z) (x : X) (y : Y) → option_and_then (λ a. option_and_then (λ b. option_map (λ _. pair_of a b) q) p) o ≡ Some (pair_of x y) → (z : Z) × (o ≡ Some x) × (p ≡ Some y) × (q ≡ Some z)
all_three (Some a) (Some b) (Some c) x y e = let same : pair_of a b ≡ pair_of x y = cc in (c, ap (λ v. Some v.0) same, ap (λ v. Some v.1) same, refl)
all_three (Some a) (Some b) None x y e = cc
all_three (Some a) None q x y e = cc
all_three None p q x y e = cc

not_three : {X Y Z : Type 0} (o : Option X) (p : Option Y) (q : Option Z) → option_and_then (λ a. option_and_then (λ b. option_map (λ _. pair_of a b) q) p) o ≡ None → (o ≡ None) ⊎ ((p ≡ None) ⊎ (q ≡ None))
not_three (Some a) (Some b) (Some c) e = cc
not_three (Some a) (Some b) None e = inr (inr refl)
not_three (Some a) None q e = inr (inl refl)
not_three None p q e = inl refl

-- two numbers of two options
both_counts : (o p : Option ℕ) (a b : ℕ) → option_and_then (λ x. option_map (λ y. pair_of x y) p) o ≡ Some (pair_of a b) → (o ≡ Some a) × (p ≡ Some b)
both_counts (Some x) (Some y) a b e = let same : pair_of x y ≡ pair_of a b = cc in (ap (λ v. Some v.0) same, ap (λ v. Some v.1) same)
both_counts (Some x) None a b e = cc
both_counts None p a b e = cc

not_counts : (test : Bool) (o p : Option ℕ) → cond test (option_and_then (λ x. option_map (λ y. pair_of x y) p) o) None ≡ None → (test ≡ false) ⊎ ((o ≡ None) ⊎ (p ≡ None))
not_counts false o p e = inl refl
not_counts true (Some x) (Some y) e = cc
not_counts true (Some x) None e = inr (inr refl)
not_counts true None p e = inr (inl refl)

-- a value where a test holds
where_true : {X : Type 0} (b : Bool) (o : Option X) (x : X) → cond b o None ≡ Some x → (b ≡ true) × (o ≡ Some x)
where_true true o x e = (refl, e)
where_true false o x e = cc

not_where : {X : Type 0} (a b : Bool) (o : Option X) → cond (a && b) o None ≡ None → (a ≡ false) ⊎ ((b ≡ false) ⊎ (o ≡ None))
not_where false b o e = inl refl
not_where true false o e = inr (inl refl)
not_where true true o e = inr (inr e)

-- the sizes of the segments are those of the condition and of what the edges hand on
sizes_said : (sizes : Vec ℕ Global) (a b : ℕ) → sizes.items ≡ 1 ∷ a ∷ b ∷ [] → said_of_sizes sizes.items (1 + (a + (b + 0))) ≡ Some (condition_said a b)
sizes_said sizes a b e =
    let plain : 1 + (a + b) ≡ 1 + (a + (b + 0)) = omega arith in
    ap (λ xs. said_of_sizes xs (1 + (a + (b + 0)))) e ∙ ap (λ (test : Bool). only test (Some (condition_said a b))) (eq-eqb (1 + (a + b)) (1 + (a + (b + 0))) plain)

-- the integer of an attribute
an_integer : (o : Option KitAttr) (a : IntegerAttr) → option_and_then integer_of o ≡ Some a → o ≡ Some (attrs.Integer a)
an_integer (Some (attrs.Integer b)) a e = let same : b ≡ a = cc in ap (λ c. Some (attrs.Integer c)) same
an_integer (Some other) a e = cc
an_integer None a e = cc

-- what an integer that has a text says
pub integer_says : (test : Bool) (u : Trees (Said KitAttr)) (n : ℕ) (us : Trees (Said KitAttr)) → only {X = ℕ × Trees (Said KitAttr)} test (Some (0, u)) ≡ Some (n, us) → (0 ≡ n) × (u ≡ us) × (test ≡ true)
integer_says true u n us e = let same : pair_of 0 u ≡ pair_of n us = cc in (ap (λ v. v.0) same, ap (λ v. v.1) same, refl)
integer_says false u n us e = cc

-- the integer, under this handle of its type
abbrev pub of_type : TypeHandle → IntegerAttr → IntegerAttr
of_type ty a = record { ty = ty; integer = a.integer; bits = a.bits }

-- the bits are those of a number of the type
abbrev pub fits_bits : IntegerAttr → Bool
fits_bits a = has_values a.integer.width && nat_lt a.bits (2 ^ a.integer.width)

-- integers that have values have widths of less than 2^32 bits
pub fits_width : (a : IntegerAttr) → fits_bits a ≡ true → nat_lt a.integer.width (2 ^ 32) ≡ true
fits_width a h = let values = and_parts (has_values a.integer.width) (nat_lt a.bits (2 ^ a.integer.width)) h in let most = leb-true a.integer.width 64 (and_parts (nat_le 1 a.integer.width) (nat_le a.integer.width 64) values.0).1 in lt-ltb a.integer.width (2 ^ 32) (omega arith)

-- attributes of the kind with the number 0 are integers
other_number : (a : KitAttr) (n : ℕ) (us : Trees (Said KitAttr)) → said_of_attribute a ≡ Some (n, us) → integer_of a ≡ None → n ≡ 0 → ⊥
other_number = attribute_by (λ a n us. integer_of a ≡ None → n ≡ 0 → ⊥) (λ a wide fits e z. cc) (λ id e z. omega (arith, z)) (λ ty e z. omega (arith, z)) (λ sizes small e z. omega (arith, z)) (λ names e z. omega (arith, z)) (λ text e z. omega (arith, z)) (λ text e z. omega (arith, z))

mutual
  -- what is shown stays so where types are kept
  pub shows_later : (old new : List KitType) → ((ty : TypeHandle) (key : KitType) → slice_get old ty.number ≡ Some key → slice_get new ty.number ≡ Some key) → (x : LabelledTree (Said KitAttr)) (t : ValueTree) → Shows says old x t → Shows says new x t
  shows_later old new kept x (node (value_of_kind sorts.«Type» n) ts) h = (h.0, h.1, h.2, h.3, kept h.0 h.1 h.4, h.5, all_later old new kept h.2 ts h.6)
  shows_later old new kept x (node (value_of_kind sorts.Attribute n) ts) h = (h.0, h.1, h.2, h.3, all_later old new kept h.1 ts h.4)
  shows_later old new kept x (node list ts) h = (h.0, h.1, all_later old new kept h.0 ts h.2)
  shows_later old new kept x (node item ts) h = (h.0, h.1, all_later old new kept h.0 ts h.2)
  shows_later old new kept x (node (chosen n) ts) h = (h.0, h.1, all_later old new kept h.0 ts h.2)
  shows_later old new kept x (node (operands n) ts) h = h
  shows_later old new kept x (node (successor n) ts) h = h
  shows_later old new kept x (node region ts) h = h
  shows_later old new kept x (node (leaf l) ts) h = h

  pub all_later : (old new : List KitType) → ((ty : TypeHandle) (key : KitType) → slice_get old ty.number ≡ Some key → slice_get new ty.number ≡ Some key) → (us : Trees (Said KitAttr)) (ts : Pieces) → ShowsAll says old us ts → ShowsAll says new us ts
  all_later old new kept no_tree no_tree h = tt
  all_later old new kept no_tree (a_tree t ts) h = absurd h
  all_later old new kept (a_tree u us) no_tree h = absurd h
  all_later old new kept (a_tree u us) (a_tree t ts) h = (shows_later old new kept u t h.0, all_later old new kept us ts h.1)

-- a width is that piece
width_piece : (types : List KitType) (s : Signedness) (w : ℕ) (t : ValueTree) → Shows says types (alone (said_leaf (width s w))) t → (ts : Pieces) × (t ≡ node (leaf (width s w)) ts)
width_piece types s w t h = seen says types (alone (said_leaf (width s w))) t h

-- the types of what an integer says
pub integer_typed : (old new : List KitType) (i : IntegerType) (ty : TypeHandle) (x : Said KitAttr) (ts : Pieces) → nat_lt i.width (2 ^ 32) ≡ true → slice_get new ty.number ≡ Some (keys.Integer i) → ShowsAll says old (two (alone x) (alone (said_leaf (width i.signedness i.width)))) ts → Pairs (ShowsType says new) (ty ∷ []) (integer_types ts)
integer_typed old new i ty x no_tree small e h = absurd h
integer_typed old new i ty x (a_tree t no_tree) small e h = absurd h.1
integer_typed old new i ty x (a_tree t (a_tree u (a_tree v vs))) small e h = absurd h.1.1
integer_typed old new i ty x (a_tree t (a_tree u no_tree)) small e h = let w = width_piece old i.signedness i.width u h.1.0 in
    subst (λ (v : ValueTree). Pairs (ShowsType says new) (ty ∷ []) (integer_types (a_tree t (a_tree v no_tree)))) (sym w.1)
    ((ty, keys.Integer i, one (alone (said_leaf (width i.signedness i.width))), refl, e, ap (λ (b : Bool). only b (Some (0, one (alone (said_leaf (width i.signedness i.width)))))) small, (refl, tt)), tt)

module _ {D : Type 0} where
  no_integer : (types : List KitType) (p : Part D KitOp KitAttr KitType) (t : ValueTree) → option_and_then integer_of (attribute_part p) ≡ None → ShowsPart says types p t → is_integer t ≡ false
  no_integer types p (node (value_of_kind sorts.Attribute zero) ts) e h =
      let here : option_and_then integer_of (attribute_part p) ≡ integer_of h.0 = ap (λ (q : Part D KitOp KitAttr KitType). option_and_then integer_of (attribute_part q)) h.1 in
      let same : h.0 ≡ h.2.0 = let f = h.2.2 in cc in
      absurd (other_number h.2.0 0 h.2.1 h.2.3 (sym (ap integer_of same) ∙ (sym here ∙ e)) refl)
  no_integer types p (node (value_of_kind sorts.Attribute (suc n)) ts) e h = refl
  no_integer types p (node _ ts) e h = refl

  -- what is not one operand is no such piece
  no_operand : (types : List KitType) (p : Part D KitOp KitAttr KitType) (t : ValueTree) → (operands_part p ≡ Some 1 → ⊥) → ShowsPart says types p t → is_operand t ≡ false
  no_operand types p (node (operands n) ts) e h = not_true (n == 1) (λ f. e (ap operands_part h ∙ ap Some (eqb-true n 1 f)))
  no_operand types p (node _ ts) e h = refl

  -- what is drafted is drafted of equal attributes and types
  pub drafted : (form : OpForm) (parts : List (Part D KitOp KitAttr KitType)) (old new : List KitType) (entries named : List (List ℕ × KitAttr)) (tys typed : List TypeHandle) → MakesForm form parts old new named typed → entries ≡ named → tys ≡ typed → MakesForm form parts old new entries tys
  drafted form parts old new entries named tys typed h e f = subst (λ v. MakesForm form parts old new v tys) (sym e) (subst (λ v. MakesForm form parts old new named v) (sym f) h)

  pub function_made : (parts : List (Part D KitOp KitAttr KitType)) (id copy : Identifier) (ty : TypeHandle) (types : List KitType) → function_header parts ≡ Some (id, ty) → text_of copy ≡ text_of id → MakesForm TypedRegion parts types types ((symbol_name, attrs.Identifier copy) ∷ (function_type, attrs.«Type» ty) ∷ []) []
  function_made [] id copy ty types e f = cc
  function_made (p ∷ []) id copy ty types e f = cc
  function_made (p ∷ q ∷ []) id copy ty types e f = cc
  function_made (p ∷ q ∷ r ∷ s ∷ rs) id copy ty types e f = cc
  function_made (p ∷ q ∷ r ∷ []) id copy ty types e f = λ ps h.
      let pieces = three_shown says types p q r ps h in
      let parts = all_three (name_part p) (type_part q) (region_part r) id ty e in
      let first = name_shown says types p id pieces.0 parts.1 pieces.4 in
      let second = type_shown says types q ty pieces.1 parts.2 pieces.5 in
      let third = region_shown says types r parts.0 pieces.2 parts.3 pieces.6 in
      let text : name_piece (text_of copy) ≡ name_piece first.0 = ap (λ (cs : List ℕ). said_leaf (name cs)) (f ∙ first.3) in
      subst (λ (qs : Pieces). (refused_in TypedRegion qs ≡ None) × FormDrafts TypedRegion types qs ((symbol_name, attrs.Identifier copy) ∷ (function_type, attrs.«Type» ty) ∷ []) [])
      (sym (pieces.3 ∙ (ap (λ t. a_tree t (a_tree pieces.1 (a_tree pieces.2 no_tree))) first.2 ∙ (ap (λ t. a_tree (node (leaf (name first.0)) first.1) (a_tree t (a_tree pieces.2 no_tree))) second.2 ∙ ap (λ t. a_tree (node (leaf (name first.0)) first.1) (a_tree (node (value_of_kind sorts.«Type» second.0) second.1) (a_tree t no_tree))) third.1))))
      (refl, record { pieces = a_tree (alone (said_leaf (name (text_of copy)))) (two (alone (said_type ty)) (alone said_region)); said = refl; shown = (ap alone text, (second.3, (refl, tt))); typed = tt })

  pub function_refused : (parts : List (Part D KitOp KitAttr KitType)) (types : List KitType) → function_header parts ≡ None → RefusesForm TypedRegion parts types 0
  function_refused parts types e = λ ps h. ap (λ (b : Bool). refused_unless b 0) (not_three_pieces says types is_name is_type is_region parts ps h
      (λ p q r t u v f s s' s''. and_false (is_name t) (is_type u && is_region v) (elim (not_three (name_part p) (type_part q) (region_part r) (sym (ap function_header f) ∙ e))
      [ inl g ↦ inl (not_name says types p t g s) | inr g ↦ inr (and_false (is_type u) (is_region v) (elim g [ inl k ↦ inl (not_type says types q u k s') | inr k ↦ inr (not_region says types r v k s'') ])) ])))

  pub constant_made : (parts : List (Part D KitOp KitAttr KitType)) (a : IntegerAttr) (old new : List KitType) (ty : TypeHandle) → one_integer parts ≡ Some a → slice_get new ty.number ≡ Some (keys.Integer a.integer) →
      ((ty : TypeHandle) (key : KitType) → slice_get old ty.number ≡ Some key → slice_get new ty.number ≡ Some key) → MakesForm Value parts old new ((constant_value, attrs.Integer (of_type ty a)) ∷ []) (ty ∷ [])
  constant_made [] a old new ty e k kept = cc
  constant_made (p ∷ q ∷ rs) a old new ty e k kept = cc
  constant_made (p ∷ []) a old new ty e k kept = λ ps h.
      let only_piece = one_shown says old p ps h in
      let shown = attribute_shown says old p (attrs.Integer a) only_piece.0 (an_integer (attribute_part p) a e) only_piece.2 in
      let attr : shown.3.0 ≡ attrs.Integer a = let f = shown.3.2 in cc in
      let said = integer_says (fits_bits a) (integer_said a.integer.signedness a.integer.width (printed_number a)) shown.0 shown.3.1 (sym (ap said_of_attribute attr) ∙ shown.3.3) in
      let pieces : ShowsAll says old (integer_said a.integer.signedness a.integer.width (printed_number a)) shown.1 = subst (λ (us : Trees (Said KitAttr)). ShowsAll says old us shown.1) (sym said.1) shown.3.4 in
      subst (λ (qs : Pieces). (refused_in Value qs ≡ None) × FormDrafts Value new qs ((constant_value, attrs.Integer (of_type ty a)) ∷ []) (ty ∷ []))
      (sym (only_piece.1 ∙ (ap (λ t. a_tree t no_tree) shown.2 ∙ ap (λ (n : ℕ). a_tree (node (value_of_kind sorts.Attribute n) shown.1) no_tree) (sym said.0)))) (
        refl,
        record {
          pieces = one (alone (said_attribute (attrs.Integer (of_type ty a))));
          said = constant_said_so (of_type ty a);
          shown = ((attrs.Integer (of_type ty a), shown.3.1, refl, sym (ap said_of_attribute attr) ∙ shown.3.3 ∙ ap (λ (n : ℕ). Some (n, shown.3.1)) (sym said.0), all_later old new kept shown.3.1 shown.1 shown.3.4), tt);
          typed = integer_typed old new a.integer ty _ shown.1 (fits_width a said.2) k pieces;
        },
      )

  pub constant_refused : (parts : List (Part D KitOp KitAttr KitType)) (types : List KitType) → one_integer parts ≡ None → RefusesForm Value parts types 0
  constant_refused parts types e = λ ps h. ap (λ (b : Bool). refused_unless b 0) (not_one says types is_integer parts ps h (λ p t f s. no_integer types p t (sym (ap one_integer f) ∙ e) s))

  pub module_made : (parts : List (Part D KitOp KitAttr KitType)) (id copy : Identifier) (types : List KitType) → module_name parts ≡ Some id → text_of copy ≡ text_of id → MakesForm NamedRegion parts types types ((symbol_name, attrs.Identifier copy) ∷ []) []
  module_made [] id copy types e f = cc
  module_made (p ∷ []) id copy types e f = cc
  module_made (p ∷ q ∷ r ∷ rs) id copy types e f = cc
  module_made (p ∷ q ∷ []) id copy types e f = λ ps h.
      let pieces = two_shown says types p q ps h in
      let parts = beside (region_part q) (name_part p) id e in
      let first = name_shown says types p id pieces.0 parts.2 pieces.3 in
      let second = region_shown says types q parts.0 pieces.1 parts.1 pieces.4 in
      let text : name_piece (text_of copy) ≡ name_piece first.0 = ap (λ (cs : List ℕ). said_leaf (name cs)) (f ∙ first.3) in
      subst (λ (qs : Pieces). (refused_in NamedRegion qs ≡ None) × FormDrafts NamedRegion types qs ((symbol_name, attrs.Identifier copy) ∷ []) [])
      (sym (pieces.2 ∙ (ap (λ t. a_tree t (a_tree pieces.1 no_tree)) first.2 ∙ ap (λ t. a_tree (node (leaf (name first.0)) first.1) (a_tree t no_tree)) second.1)))
      (refl, record { pieces = two (alone (said_leaf (name (text_of copy)))) (alone said_region); said = refl; shown = (ap alone text, (refl, tt)); typed = tt })

  pub module_refused : (parts : List (Part D KitOp KitAttr KitType)) (types : List KitType) → module_name parts ≡ None → RefusesForm NamedRegion parts types 0
  module_refused parts types e = λ ps h. ap (λ (b : Bool). refused_unless b 0) (not_two says types is_name is_region parts ps h
      (λ p q t u f s v. and_false (is_name t) (is_region u) (elim (not_beside (region_part q) (name_part p) (sym (ap module_name f) ∙ e)) [ inl g ↦ inr (not_region says types q u g v) | inr g ↦ inl (not_name says types p t g s) ])))

  pub operands_made : (parts : List (Part D KitOp KitAttr KitType)) (n : ℕ) (types : List KitType) → one_operands parts ≡ Some n → MakesForm AnyOperands parts types types [] []
  operands_made [] n types e = cc
  operands_made (p ∷ q ∷ rs) n types e = cc
  operands_made (p ∷ []) n types e = λ ps h.
      let only = one_shown says types p ps h in
      let shown = operands_shown says types p n only.0 e only.2 in
      subst (λ (qs : Pieces). (refused_in AnyOperands qs ≡ None) × FormDrafts AnyOperands types qs [] []) (sym (only.1 ∙ ap (λ t. a_tree t no_tree) shown.1))
      (let same : n + 0 ≡ n = omega arith in (refl, record { pieces = one (alone (said_operands (n + 0))); said = refl; shown = (ap (λ (i : ℕ). alone (said_operands i)) same, tt); typed = tt }))

  pub operands_refused : (parts : List (Part D KitOp KitAttr KitType)) (types : List KitType) → one_operands parts ≡ None → RefusesForm AnyOperands parts types 0
  operands_refused parts types e = λ ps h. ap (λ (b : Bool). refused_unless b 0) (not_one says types are_operands parts ps h (λ p t f s. not_operands says types p t (sym (ap one_operands f) ∙ e) s))

  pub pair_made : (parts : List (Part D KitOp KitAttr KitType)) (ty : TypeHandle) (types : List KitType) → pair_type parts ≡ Some ty → MakesForm TwoOperands parts types types [] (ty ∷ [])
  pair_made [] ty types e = cc
  pair_made (p ∷ []) ty types e = cc
  pair_made (p ∷ q ∷ []) ty types e = cc
  pair_made (p ∷ q ∷ r ∷ s ∷ rs) ty types e = cc
  pair_made (p ∷ q ∷ r ∷ []) ty types e = λ ps h.
      let pieces = three_shown says types p q r ps h in
      let parts = where_true (is_one_operand p && is_one_operand q) (type_part r) ty e in
      let used = and_parts (is_one_operand p) (is_one_operand q) parts.0 in
      let first = operand_shown says types p pieces.0 used.0 pieces.4 in
      let second = operand_shown says types q pieces.1 used.1 pieces.5 in
      let third = type_shown says types r ty pieces.2 parts.1 pieces.6 in
      subst (λ (qs : Pieces). (refused_in TwoOperands qs ≡ None) × FormDrafts TwoOperands types qs [] (ty ∷ []))
      (sym (pieces.3 ∙ (ap (λ t. a_tree t (a_tree pieces.1 (a_tree pieces.2 no_tree))) first.1 ∙ (ap (λ t. a_tree (node (operands 1) first.0) (a_tree t (a_tree pieces.2 no_tree))) second.1 ∙ ap (λ t. a_tree (node (operands 1) first.0) (a_tree (node (operands 1) second.0) (a_tree t no_tree))) third.2))))
      (refl, record { pieces = a_tree (alone (said_operands 1)) (two (alone (said_operands 1)) (alone (said_type ty))); said = refl; shown = (refl, (refl, (third.3, tt))); typed = (third.3, tt) })

  pub pair_refused : (parts : List (Part D KitOp KitAttr KitType)) (types : List KitType) → pair_type parts ≡ None → RefusesForm TwoOperands parts types 0
  pair_refused parts types e = λ ps h. ap (λ (b : Bool). refused_unless b 0) (not_three_pieces says types is_operand is_operand is_type parts ps h
      (λ p q r t u v f s s' s''. and_false (is_operand t) (is_operand u && is_type v) (elim (not_where (is_one_operand p) (is_one_operand q) (type_part r) (sym (ap pair_type f) ∙ e))
      [ inl g ↦ inl (not_operand says types p t g s) | inr g ↦ inr (and_false (is_operand u) (is_type v) (elim g [ inl k ↦ inl (not_operand says types q u k s') | inr k ↦ inr (not_type says types r v k s'') ])) ])))

  pub operand_made : (parts : List (Part D KitOp KitAttr KitType)) (types : List KitType) → one_operands parts ≡ Some 1 → MakesForm OneOperand parts types types [] []
  operand_made [] types e = cc
  operand_made (p ∷ q ∷ rs) types e = cc
  operand_made (p ∷ []) types e = λ ps h.
      let only = one_shown says types p ps h in
      let shown = operands_shown says types p 1 only.0 e only.2 in
      subst (λ (qs : Pieces). (refused_in OneOperand qs ≡ None) × FormDrafts OneOperand types qs [] []) (sym (only.1 ∙ ap (λ t. a_tree t no_tree) shown.1))
      (refl, record { pieces = one (alone (said_operands 1)); said = refl; shown = (refl, tt); typed = tt })

  pub operand_refused : (parts : List (Part D KitOp KitAttr KitType)) (types : List KitType) → (one_operands parts ≡ Some 1 → ⊥) → RefusesForm OneOperand parts types 0
  operand_refused parts types e = λ ps h. ap (λ (b : Bool). refused_unless b 0) (not_one says types is_operand parts ps h (λ p t f s. no_operand types p t (λ g. e (ap one_operands f ∙ g)) s))

  -- no parts give an operation with one result, of the unit type
  pub empty_made : (parts : List (Part D KitOp KitAttr KitType)) (old new : List KitType) (ty : TypeHandle) → length parts ≡ 0 → slice_get new ty.number ≡ Some keys.Unit → MakesForm Empty parts old new [] (ty ∷ [])
  empty_made [] old new ty e k no_tree h = (refl, record { pieces = no_tree; said = refl; shown = tt; typed = ((ty, keys.Unit, no_tree, refl, k, refl, tt), tt) })
  empty_made [] old new ty e k (a_tree t ts) h = absurd h
  empty_made (p ∷ rs) old new ty e k ps h = cc

  pub empty_refused : (parts : List (Part D KitOp KitAttr KitType)) (types : List KitType) → (parts ≡ [] → ⊥) → RefusesForm Empty parts types 0
  empty_refused [] types e ps h = absurd (e refl)
  empty_refused (p ∷ rs) types e no_tree h = absurd h
  empty_refused (p ∷ rs) types e (a_tree t ts) h = refl

  pub call_made : (parts : List (Part D KitOp KitAttr KitType)) (id copy : Identifier) (ty : TypeHandle) (types : List KitType) → call_header parts ≡ Some (id, ty) → text_of copy ≡ text_of id →
      MakesForm Called parts types types ((callee, attrs.Identifier copy) ∷ (callee_type, attrs.«Type» ty) ∷ []) (returned_by (slice_get types ty.number))
  call_made [] id copy ty types e f = cc
  call_made (p ∷ []) id copy ty types e f = cc
  call_made (p ∷ q ∷ []) id copy ty types e f = cc
  call_made (p ∷ q ∷ r ∷ s ∷ rs) id copy ty types e f = cc
  call_made (p ∷ q ∷ r ∷ []) id copy ty types e f = λ ps h.
      let pieces = three_shown says types p q r ps h in
      let parts = all_three (name_part p) (type_part r) (operands_part q) id ty e in
      let first = name_shown says types p id pieces.0 parts.1 pieces.4 in
      let second = operands_shown says types q parts.0 pieces.1 parts.3 pieces.5 in
      let third = type_shown says types r ty pieces.2 parts.2 pieces.6 in
      let text : name_piece (text_of copy) ≡ name_piece first.0 = ap (λ (cs : List ℕ). said_leaf (name cs)) (f ∙ first.3) in
      let same : parts.0 + 0 ≡ parts.0 = omega arith in
      subst (λ (qs : Pieces). (refused_in Called qs ≡ None) × FormDrafts Called types qs ((callee, attrs.Identifier copy) ∷ (callee_type, attrs.«Type» ty) ∷ []) (returned_by (slice_get types ty.number)))
      (sym (pieces.3 ∙ (ap (λ t. a_tree t (a_tree pieces.1 (a_tree pieces.2 no_tree))) first.2 ∙ (ap (λ t. a_tree (node (leaf (name first.0)) first.1) (a_tree t (a_tree pieces.2 no_tree))) second.1 ∙ ap (λ t. a_tree (node (leaf (name first.0)) first.1) (a_tree (node (operands parts.0) second.0) (a_tree t no_tree))) third.2))))
      (refl, record { pieces = call_said (text_of copy) ty (parts.0 + 0); said = refl; shown = (ap alone text, (ap (λ (i : ℕ). alone (said_operands i)) same, (third.3, tt))); typed = returned_shown types ty third.0 third.1 third.3 })

  pub call_refused : (parts : List (Part D KitOp KitAttr KitType)) (types : List KitType) → call_header parts ≡ None → RefusesForm Called parts types 0
  call_refused parts types e = λ ps h. ap (λ (b : Bool). refused_unless b 0) (not_three_pieces says types is_name are_operands is_type parts ps h
      (λ p q r t u v f s s' s''. and_false (is_name t) (are_operands u && is_type v) (elim (not_three (name_part p) (type_part r) (operands_part q) (sym (ap call_header f) ∙ e))
      [ inl g ↦ inl (not_name says types p t g s) | inr g ↦ inr (and_false (are_operands u) (is_type v) (elim g [ inl k ↦ inr (not_type says types r v k s'') | inr k ↦ inl (not_operands says types q u k s') ])) ])))

  pub edge_made : (parts : List (Part D KitOp KitAttr KitType)) (n : ℕ) (types : List KitType) → one_edge parts ≡ Some n → MakesForm Edge parts types types [] []
  edge_made [] n types e = cc
  edge_made (p ∷ q ∷ rs) n types e = cc
  edge_made (p ∷ []) n types e = λ ps h.
      let only = one_shown says types p ps h in
      let shown = successor_shown says types p n only.0 e only.2 in
      subst (λ (qs : Pieces). (refused_in Edge qs ≡ None) × FormDrafts Edge types qs [] []) (sym (only.1 ∙ ap (λ t. a_tree t no_tree) shown.1))
      (let same : n + 0 ≡ n = omega arith in (refl, record { pieces = one (alone (said_successor (n + 0))); said = refl; shown = (ap (λ (i : ℕ). alone (said_successor i)) same, tt); typed = tt }))

  pub edge_refused : (parts : List (Part D KitOp KitAttr KitType)) (types : List KitType) → one_edge parts ≡ None → RefusesForm Edge parts types 0
  edge_refused parts types e = λ ps h. ap (λ (b : Bool). refused_unless b 0) (not_one says types is_edge parts ps h (λ p t f s. not_successor says types p t (sym (ap one_edge f) ∙ e) s))

  pub edges_made : (parts : List (Part D KitOp KitAttr KitType)) (a b : ℕ) (sizes : Vec ℕ Global) (types : List KitType) → edge_counts parts ≡ Some (pair_of a b) → sizes.items ≡ 1 ∷ a ∷ b ∷ [] →
      MakesForm ConditionEdges parts types types ((segment_sizes, attrs.SegmentSizes sizes) ∷ []) []
  edges_made [] a b sizes types e f = cc
  edges_made (p ∷ []) a b sizes types e f = cc
  edges_made (p ∷ q ∷ []) a b sizes types e f = cc
  edges_made (p ∷ q ∷ r ∷ s ∷ rs) a b sizes types e f = cc
  edges_made (p ∷ q ∷ r ∷ []) a b sizes types e f = λ ps h.
      let pieces = three_shown says types p q r ps h in
      let counts = where_true (is_one_operand p) (option_and_then (λ x. option_map (λ y. pair_of x y) (successor_part r)) (successor_part q)) (pair_of a b) e in
      let edges = both_counts (successor_part q) (successor_part r) a b counts.1 in
      let first = operand_shown says types p pieces.0 counts.0 pieces.4 in
      let second = successor_shown says types q a pieces.1 edges.0 pieces.5 in
      let third = successor_shown says types r b pieces.2 edges.1 pieces.6 in
      subst (λ (qs : Pieces). (refused_in ConditionEdges qs ≡ None) × FormDrafts ConditionEdges types qs ((segment_sizes, attrs.SegmentSizes sizes) ∷ []) [])
      (sym (pieces.3 ∙ (ap (λ t. a_tree t (a_tree pieces.1 (a_tree pieces.2 no_tree))) first.1 ∙ (ap (λ t. a_tree (node (operands 1) first.0) (a_tree t (a_tree pieces.2 no_tree))) second.1 ∙ ap (λ t. a_tree (node (operands 1) first.0) (a_tree (node (successor a) second.0) (a_tree t no_tree))) third.1))))
      (refl, record { pieces = condition_said a b; said = sizes_said sizes a b f; shown = (refl, (refl, (refl, tt))); typed = tt })

  pub edges_refused : (parts : List (Part D KitOp KitAttr KitType)) (types : List KitType) → edge_counts parts ≡ None → RefusesForm ConditionEdges parts types 0
  edges_refused parts types e = λ ps h. ap (λ (b : Bool). refused_unless b 0) (not_three_pieces says types is_operand is_edge is_edge parts ps h
      (λ p q r t u v f s s' s''. and_false (is_operand t) (is_edge u && is_edge v) (elim (not_counts (is_one_operand p) (successor_part q) (successor_part r) (sym (ap edge_counts f) ∙ e))
      [ inl g ↦ inl (not_operand says types p t g s) | inr g ↦ inr (and_false (is_edge u) (is_edge v) (elim g [ inl k ↦ inl (not_successor says types q u k s') | inr k ↦ inr (not_successor says types r v k s'') ])) ])))
