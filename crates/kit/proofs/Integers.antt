-- What integers are read of their parts.
use Rattle.std.proofs.Common.{◌≡◌, ℕ, ◌-◌, ◌*◌, ◌%◌, ◌^◌, ◌<◌, ◌≤◌, Bool, true, false, cond, ◌&&◌, List, [], ◌∷◌, length, get_or, Option, Some, None, nat_le, nat_lt, refl, sym, ap, ◌∙◌, subst, arith}
use Rattle.std.proofs.Math.Pow.{pow_mono}
use Rattle.std.proofs.lemmas.Nat.{pow_pos}
use Rattle.std.proofs.lemmas.Bool.Decides.{nat_tests}
use Rattle.ir_names.specs.Tree.{LabelledTree, node, no_tree, a_tree, label_of}
use Rattle.ir_print.specs.declared.format.Number.{Number}
use Rattle.ir_print.specs.declared.format.Part.{Part}
use Rattle.ir_print.specs.Pieces.{leaf, width, list, item, region, name, operands, successor, number, value_of_kind, ValueTree, Pieces, chosen, unsigned, quoted, mark}
use Rattle.ir_print.specs.Shown.{Said, IsNumber, said_leaf, alone, ShowsPart, ShowsParts, ShowsAttribute}
use Rattle.kit_ops.specs.declared.kinds.KitOp.{KitOp}
use Rattle.kit_ops.specs.declared.types.KitType.{KitType}
use Rattle.kit_ops.specs.declared.types.IntegerType.{IntegerType}
use Rattle.kit_ops.specs.declared.attributes.IntegerAttr.{IntegerAttr}
use Rattle.kit_ops.specs.declared.attributes.KitAttr.{KitAttr}
use Rattle.kit_ops.specs.declared.attributes.KitAttr.TheVariants as attrs
use Rattle.kit.specs.Numbers.{HasValues, IsNumberOfType, number_modulo, number_of_bits, printed_number}
use Rattle.kit.specs.Parts.{number_part, integer_part}
use Rattle.kit.specs.Says.{says, only, integer_said, has_values, bits_of, is_number_of, refused_unless, refused_integer, refused_attribute, canonical}
use Rattle.ir_print.specs.declared.format.ValueSort.TheVariants as sorts
use Rattle.kit.proofs.Shapes.{width_shown, number_shown, two_shown, wide_leaf, number_none}

values_hold : (w : ℕ) → 1 ≤ w → w ≤ 64 → has_values w ≡ true
values_hold w least most = let a : nat_le 1 w ≡ true = grind (arith, nat_tests) in let b : nat_le w 64 ≡ true = grind (arith, nat_tests) in ap (λ (x : Bool). x && nat_le w 64) a ∙ b

values_fail : (i : IntegerType) → (HasValues i → ⊥) → (b c : Bool) → nat_le 1 i.width ≡ b → nat_le i.width 64 ≡ c → (b && c) ≡ false
values_fail i n true true e f = let least : 1 ≤ i.width = grind (arith, nat_tests) in let most : i.width ≤ 64 = grind (arith, nat_tests) in absurd (n (record { least = least; most = most }))
values_fail i n true false e f = refl
values_fail i n false c e f = refl

and_none : (b c : Bool) → c ≡ false → (b && c) ≡ false
and_none true c e = e
and_none false c e = refl

not_true : (b : Bool) → (b ≡ true → ⊥) → b ≡ false
not_true true n = absurd (n refl)
not_true false n = refl

too_wide : (w : ℕ) → 2 ^ 32 ≤ w → has_values w ≡ false
too_wide w h = let b : nat_le w 64 ≡ false = grind (arith, nat_tests) in and_none (nat_le 1 w) (nat_le w 64) b

range_holds : (w : ℕ) (b : Bool) (m : ℕ) → cond b (2 * m ≤ 2 ^ w) (m < 2 ^ w) → is_number_of w (leaf (number b m)) ≡ true
range_holds w true m h = grind (arith, nat_tests)
range_holds w false m h = grind (arith, nat_tests)

range_fails : (w : ℕ) (b : Bool) (m : ℕ) → (cond b (2 * m ≤ 2 ^ w) (m < 2 ^ w) → ⊥) → is_number_of w (leaf (number b m)) ≡ false
range_fails w true m n = not_true (nat_le (2 * m) (2 ^ w)) (λ e. n (grind (arith, nat_tests)))
range_fails w false m n = not_true (nat_lt m (2 ^ w)) (λ e. n (grind (arith, nat_tests)))

abbrev number_leaf : Number → LabelledTree (Said KitAttr)
number_leaf n = alone (said_leaf (number n.is_negative n.magnitude))

-- bits that were read are those of the type
low_test : (m n : ℕ) → m < n → nat_lt m n ≡ true
low_test m n h = grind (arith, nat_tests)

modulo_low : (p : ℕ) → 0 < p → (b : Bool) (m : ℕ) → cond b ((p - m) % p) (m % p) < p
modulo_low p h true m = omega arith
modulo_low p h false m = omega arith

is_low : (w : ℕ) (n : Number) → nat_lt (number_modulo w n) (2 ^ w) ≡ true
is_low w n = low_test (number_modulo w n) (2 ^ w) (modulo_low (2 ^ w) (pow_pos w) n.is_negative n.magnitude)

-- a number that has no 64 bits is in no range
too_great : (w : ℕ) (b : Bool) (m : ℕ) → w ≤ 64 → (o : Option Number) → o ≡ None → IsNumber o b m → cond b (2 * m ≤ 2 ^ w) (m < 2 ^ w) → ⊥
too_great w true m most (Some n) e h r = cc
too_great w false m most (Some n) e h r = cc
too_great w true m most None e h r = let top : 2 ^ w ≤ 2 ^ 64 = pow_mono most in omega arith
too_great w false m most None e h r = let top : 2 ^ w ≤ 2 ^ 64 = pow_mono most in omega arith

-- a list of two elements by its second
pub second_of_two : {X : Type 0} (xs : List X) (y : X) → length xs ≡ 2 → y ≡ get_or xs 1 y → (x : X) × (xs ≡ x ∷ y ∷ [])
second_of_two [] y n e = absurd (omega arith)
second_of_two (a ∷ []) y n e = absurd (omega arith)
second_of_two (a ∷ b ∷ []) y n e = (a, ap (λ z. a ∷ z ∷ []) (sym e))
second_of_two (a ∷ b ∷ c ∷ rest) y n e = absurd (omega arith)

module _ {D : Type 0} where
  -- what is no width has no values
  no_values : (types : List KitType) (q : Part D KitOp KitAttr KitType) (t : ValueTree) → integer_part q ≡ None → ShowsPart says types q t → has_values (bits_of (label_of t)) ≡ false
  no_values types q (node (value_of_kind sort n) ts) e h = refl
  no_values types q (node list ts) e h = refl
  no_values types q (node item ts) e h = refl
  no_values types q (node (chosen n) ts) e h = refl
  no_values types q (node (operands n) ts) e h = refl
  no_values types q (node (successor n) ts) e h = refl
  no_values types q (node region ts) e h = refl
  no_values types q (node (leaf (name cs)) ts) e h = refl
  no_values types q (node (leaf (number b m)) ts) e h = refl
  no_values types q (node (leaf (unsigned m)) ts) e h = refl
  no_values types q (node (leaf (quoted cs)) ts) e h = refl
  no_values types q (node (leaf (mark m)) ts) e h = refl
  no_values types q (node (leaf (width sign bits)) ts) e h = too_wide bits (wide_leaf q h.0 sign bits h.1 e h.2)

  -- what is no number of 64 bits is none of the type
  no_number : (types : List KitType) (w : ℕ) → w ≤ 64 → (p : Part D KitOp KitAttr KitType) (t : ValueTree) → number_part p ≡ None → ShowsPart says types p t → is_number_of w (label_of t) ≡ false
  no_number types w most p (node (value_of_kind sort n) ts) e h = refl
  no_number types w most p (node list ts) e h = refl
  no_number types w most p (node item ts) e h = refl
  no_number types w most p (node (chosen n) ts) e h = refl
  no_number types w most p (node (operands n) ts) e h = refl
  no_number types w most p (node (successor n) ts) e h = refl
  no_number types w most p (node region ts) e h = refl
  no_number types w most p (node (leaf (name cs)) ts) e h = refl
  no_number types w most p (node (leaf (number b m)) ts) e h = range_fails w b m (let none = number_none p h.0 b m h.1 e h.2 in too_great w b m most none.0 none.1 none.2)
  no_number types w most p (node (leaf (unsigned m)) ts) e h = refl
  no_number types w most p (node (leaf (quoted cs)) ts) e h = refl
  no_number types w most p (node (leaf (mark m)) ts) e h = refl
  no_number types w most p (node (leaf (width sign bits)) ts) e h = refl

  pub length_refused : (types : List KitType) (parts : List (Part D KitOp KitAttr KitType)) (ps : Pieces) → (length parts ≡ 2 → ⊥) → ShowsParts says types parts ps → refused_attribute 0 ps ≡ Some 0
  length_refused types parts no_tree n h = refl
  length_refused types [] (a_tree t ts) n h = absurd h
  length_refused types (p ∷ rs) (a_tree t no_tree) n h = refl
  length_refused types (p ∷ []) (a_tree t (a_tree u us)) n h = absurd h.1
  length_refused types (p ∷ q ∷ []) (a_tree t (a_tree u us)) n h = absurd (n refl)
  length_refused types (p ∷ q ∷ r ∷ rs) (a_tree t (a_tree u no_tree)) n h = absurd h.1.1
  length_refused types (p ∷ q ∷ r ∷ rs) (a_tree t (a_tree u (a_tree v vs))) n h = refl

  pub width_refused : (types : List KitType) (p q : Part D KitOp KitAttr KitType) (ps : Pieces) → integer_part q ≡ None → ShowsParts says types (p ∷ q ∷ []) ps → refused_attribute 0 ps ≡ Some 1
  width_refused types p q ps e h = let pieces = two_shown says types p q ps h in
      ap (refused_attribute 0) pieces.2 ∙ ap (λ (b : Bool). cond b (refused_unless (is_number_of (bits_of (label_of pieces.1)) (label_of pieces.0)) 0) (Some 1)) (no_values types q pieces.1 e pieces.4)

  pub values_refused : (types : List KitType) (p q : Part D KitOp KitAttr KitType) (i : IntegerType) (ps : Pieces) → integer_part q ≡ Some i → (HasValues i → ⊥) → ShowsParts says types (p ∷ q ∷ []) ps → refused_attribute 0 ps ≡ Some 1
  values_refused types p q i ps e n h = let pieces = two_shown says types p q ps h in let second = width_shown says types q i pieces.1 e pieces.4 in
      ap (refused_attribute 0) pieces.2 ∙ (ap (λ (t : ValueTree). refused_integer (label_of pieces.0) (label_of t)) second.1 ∙
      ap (λ (b : Bool). cond b (refused_unless (is_number_of i.width (label_of pieces.0)) 0) (Some 1)) (values_fail i n _ _ refl refl))

  -- the answer is that of the number, where the width has values
  of_number : (types : List KitType) (p q : Part D KitOp KitAttr KitType) (i : IntegerType) (ps : Pieces) → integer_part q ≡ Some i → HasValues i → ShowsParts says types (p ∷ q ∷ []) ps → (t : ValueTree) × ShowsPart says types p t × (refused_attribute 0 ps ≡ refused_unless (is_number_of i.width (label_of t)) 0)
  of_number types p q i ps e v h = let pieces = two_shown says types p q ps h in let second = width_shown says types q i pieces.1 e pieces.4 in (
    pieces.0,
    pieces.3,
    ap (refused_attribute 0) pieces.2 ∙ (ap (λ (t : ValueTree). refused_integer (label_of pieces.0) (label_of t)) second.1 ∙
        ap (λ (b : Bool). cond b (refused_unless (is_number_of i.width (label_of pieces.0)) 0) (Some 1)) (values_hold i.width v.least v.most)),
  )

  pub number_refused : (types : List KitType) (p q : Part D KitOp KitAttr KitType) (i : IntegerType) (ps : Pieces) → integer_part q ≡ Some i → HasValues i → number_part p ≡ None → ShowsParts says types (p ∷ q ∷ []) ps → refused_attribute 0 ps ≡ Some 0
  number_refused types p q i ps e v f h = let rest = of_number types p q i ps e v h in rest.2 ∙ ap (λ (b : Bool). refused_unless b 0) (no_number types i.width v.most p rest.0 f rest.1)

  pub range_refused : (types : List KitType) (p q : Part D KitOp KitAttr KitType) (i : IntegerType) (n : Number) (ps : Pieces) → integer_part q ≡ Some i → HasValues i → number_part p ≡ Some n → (IsNumberOfType i n → ⊥) → ShowsParts says types (p ∷ q ∷ []) ps → refused_attribute 0 ps ≡ Some 0
  range_refused types p q i n ps e v f not h = let rest = of_number types p q i ps e v h in let shown = number_shown says types p n rest.0 f rest.1 in
      rest.2 ∙ ap (λ (b : Bool). refused_unless b 0) (ap (λ (t : ValueTree). is_number_of i.width (label_of t)) shown.1 ∙ range_fails i.width n.is_negative n.magnitude (λ r. not (record { values = v; range = r })))

  pub integer_made : (types new : List KitType) (p q : Part D KitOp KitAttr KitType) (n : Number) (a : IntegerAttr) (ps : Pieces) → integer_part q ≡ Some a.integer → number_part p ≡ Some n → IsNumberOfType a.integer n → a.bits ≡ number_modulo a.integer.width n → ShowsParts says types (p ∷ q ∷ []) ps →
      (refused_attribute 0 ps ≡ None) × ShowsAttribute says new (attrs.Integer a) (node (value_of_kind sorts.Attribute 0) (canonical 0 ps))
  integer_made types new p q n a ps e f is bits h =
      let i = a.integer in
      let pieces = two_shown says types p q ps h in
      let second = width_shown says types q a.integer pieces.1 e pieces.4 in
      let first = number_shown says types p n pieces.0 f pieces.3 in
      let values = values_hold a.integer.width is.values.least is.values.most in
      let range = range_holds a.integer.width n.is_negative n.magnitude is.range in
      let low : nat_lt a.bits (2 ^ a.integer.width) ≡ true = ap (λ (m : ℕ). nat_lt m (2 ^ a.integer.width)) bits ∙ is_low a.integer.width n in
      subst (λ (qs : Pieces). (refused_attribute 0 qs ≡ None) × ShowsAttribute says new (attrs.Integer a) (node (value_of_kind sorts.Attribute 0) (canonical 0 qs)))
      (sym (pieces.2 ∙ (ap (λ t. a_tree t (a_tree pieces.1 no_tree)) first.1 ∙ ap (λ t. a_tree (node (leaf (number n.is_negative n.magnitude)) first.0) (a_tree t no_tree)) second.1))) (
        ap (λ (b : Bool). cond b (refused_unless (is_number_of a.integer.width (leaf (number n.is_negative n.magnitude))) 0) (Some 1)) values ∙ ap (λ (b : Bool). refused_unless b 0) range,
        (
          attrs.Integer a,
          integer_said a.integer.signedness a.integer.width (printed_number a),
          refl,
          ap (λ (b : Bool). only (b && nat_lt a.bits (2 ^ a.integer.width)) (Some (0, integer_said a.integer.signedness a.integer.width (printed_number a)))) values ∙ ap (λ (b : Bool). only b (Some (0, integer_said a.integer.signedness a.integer.width (printed_number a)))) low,
          (ap (λ (m : ℕ). number_leaf (number_of_bits a.integer.signedness a.integer.width m)) bits, (refl, tt)),
        ),
      )
