-- Marks, and attributes that are printed once.
use Rattle.std.proofs.Common.{arith, ◌≡◌, ◌∙◌, ℕ, suc, ◌+◌, ◌≤◌, ◌<◌, get_or, drop, Bool, true, false, List, [], ◌∷◌, ◌++◌, Some, None, cond, length, refl, sym, ap, Bor, append-nil}
use Rattle.std.specs.Prelude.{flat_map}
use Rattle.std.specs.List.{list_any, position_or_len}
use Rattle.std.specs.Prelude.{position, nat_lt, ◌||◌, not}
use Rattle.std.proofs.lemmas.Bool.{ltb-false}
use Rattle.std.proofs.lemmas.Option.{cond_some, none-some}
use Rattle.std.proofs.lemmas.List.{map-append}
use Rattle.ir_names.specs.declared.identifier.Identifier.{Identifier}
use Rattle.ir_names.specs.Identifier.{text_of}
use Rattle.ir_outlines.specs.Marks.{Beside, is_marked, marked}
use Rattle.ir_outlines.specs.Section.{Sharing, with_distinct, index_of, once_in}
use Rattle.std.proofs.lemmas.List.{drop_more}
use Rattle.outline_tables.specs.Tables.{found_under, said_beside}
use Rattle.outline_tables.specs.declared.entries.Outlined.{Outlined}
use Rattle.text_sections.specs.Items.{attributes_in, once_among, said_items}

module _ {A L : Type 0} where
  -- one item more
  pub marked-next : (items : List (Outlined A L)) (i : ℕ) (x : Outlined A L) → i < length items → x ≡ get_or items i x
      → said_items (drop i items) ≡ said_beside x ∷ said_items (drop (i + 1) items)
  marked-next items i x lt is = ap said_items (drop_more items i x lt ∙ ap (λ y. y ∷ drop (i + 1) items) (sym is))

turned : (b : Bool) (n : ℕ) → cond b 0 (suc n) ≡ cond (not b) (1 + n) 0
turned true n = refl
turned false n = omega arith

module _ {A : Type 0} (d : Sharing A) where
  any_in : (x : A) (ks : List (Bor A)) → list_any (λ (k : Bor A). d.is_same x k.now) ks ≡ list_any (d.is_same x) (attributes_in ks)
  any_in x [] = refl
  any_in x (k ∷ ks) = ap (λ b. d.is_same x k.now || b) (any_in x ks)

  -- one key more
  pub key_added : (ks : List (Bor A)) (k : Bor A)
      → attributes_in (cond (list_any (λ (y : Bor A). d.is_same k.now y.now) ks) ks (ks ++ k ∷ []))
      ≡ cond (list_any (d.is_same k.now) (attributes_in ks)) (attributes_in ks) (attributes_in ks ++ k.now ∷ [])
  key_added ks k = by (list_any (λ (y : Bor A). d.is_same k.now y.now) ks) ∙ ap (λ b. cond b (attributes_in ks) (attributes_in ks ++ k.now ∷ [])) (any_in k.now ks)
    where
      by : (b : Bool) → attributes_in (cond b ks (ks ++ k ∷ [])) ≡ cond b (attributes_in ks) (attributes_in ks ++ k.now ∷ [])
      by true = refl
      by false = map-append (λ (y : Bor A). y.now) ks (k ∷ [])

  -- attributes of two items
  pub distinct_both : (xs ys seen : List A) → with_distinct d seen (xs ++ ys) ≡ with_distinct d (with_distinct d seen xs) ys
  distinct_both [] ys seen = refl
  distinct_both (x ∷ xs) ys seen = distinct_both xs ys (cond (list_any (d.is_same x) seen) seen (seen ++ x ∷ []))

  -- the place of an attribute
  pub index_is : (x : A) (ks : List (Bor A)) → index_of d (attributes_in ks) x ≡ position_or_len (λ (k : Bor A). d.is_same x k.now) ks
  index_is x [] = refl
  index_is x (k ∷ ks) = turned (d.is_same x k.now) (index_of d (attributes_in ks) x) ∙ ap (λ n. cond (not (d.is_same x k.now)) (1 + n) 0) (index_is x ks)

  -- ---- attributes and items one after the other
  once_cons : (m : List ℕ × A) (ms : List (List ℕ × A)) → once_in d (m ∷ ms) ≡ once_in d (m ∷ []) ++ once_in d ms
  once_cons m ms = by (d.is_once m.0 m.1)
    where
      by : (b : Bool) → cond b (m.1 ∷ once_in d ms) (once_in d ms) ≡ cond b (m.1 ∷ []) [] ++ once_in d ms
      by true = refl
      by false = refl

  -- one attribute more
  pub attributes-next : (attributes : List (Bor Identifier × Bor A)) (i : ℕ) (x : Bor Identifier × Bor A) (seen : List A) → i < length attributes → x ≡ get_or attributes i x
      → with_distinct d (with_distinct d seen (once_in d ((text_of x.0.now, x.1.now) ∷ []))) (once_in d (found_under (drop (i + 1) attributes)))
      ≡ with_distinct d seen (once_in d (found_under (drop i attributes)))
  attributes-next attributes i x seen lt is =
      let m : List ℕ × A = (text_of x.0.now, x.1.now) in
      let rest = found_under (drop (i + 1) attributes) in
      sym (distinct_both (once_in d (m ∷ [])) (once_in d rest) seen)
      ∙ ap (with_distinct d seen) (sym (once_cons m rest))
      ∙ ap (λ xs. with_distinct d seen (once_in d (found_under xs))) (sym (drop_more attributes i x lt ∙ ap (λ y. y ∷ drop (i + 1) attributes) (sym is)))

  module _ {L : Type 0} where
    among_cons : (b : Beside A L) (bs : List (Beside A L)) → once_among d (b ∷ bs) ≡ once_among d (b ∷ []) ++ once_among d bs
    among_cons b bs = by (is_marked b)
      where
        by : (m : Bool) → flat_map (λ (b : Beside A L). once_in d b.attributes) (cond m (b ∷ marked bs) (marked bs))
            ≡ flat_map (λ (b : Beside A L). once_in d b.attributes) (cond m (b ∷ []) []) ++ once_among d bs
        by true = ap (λ xs. xs ++ once_among d bs) (sym (append-nil (once_in d b.attributes)))
        by false = refl

    -- one item more
    pub items-next : (items : List (Outlined A L)) (i : ℕ) (x : Outlined A L) (seen : List A) → i < length items → x ≡ get_or items i x
        → with_distinct d (with_distinct d seen (once_among d (said_beside x ∷ []))) (once_among d (said_items (drop (i + 1) items)))
        ≡ with_distinct d seen (once_among d (said_items (drop i items)))
    items-next items i x seen lt is =
        sym (distinct_both (once_among d (said_beside x ∷ [])) (once_among d (said_items (drop (i + 1) items))) seen)
        ∙ ap (with_distinct d seen) (sym (among_cons (said_beside x) (said_items (drop (i + 1) items))))
        ∙ ap (λ bs. with_distinct d seen (once_among d bs)) (sym (marked-next items i x lt is))

module _ {X : Type 0} (p : X → Bool) where
  within : (xs : List X) → position_or_len p xs ≤ length xs
  within [] = omega arith
  within (x ∷ xs) = by (not (p x)) (within xs)
    where
      by : (b : Bool) → position_or_len p xs ≤ length xs → cond b (1 + position_or_len p xs) 0 ≤ suc (length xs)
      by true le = omega (arith, le)
      by false le = omega arith

  pub found_at : (xs : List X) (i : ℕ) → position p xs ≡ Some i → position_or_len p xs ≡ i
  found_at xs i is = (cond_some (nat_lt (position_or_len p xs) (length xs)) (position_or_len p xs) i is).1

  pub not_found : (xs : List X) → position p xs ≡ None → position_or_len p xs ≡ length xs
  not_found xs is = by (nat_lt (position_or_len p xs) (length xs)) refl is
    where
      by : (b : Bool) → nat_lt (position_or_len p xs) (length xs) ≡ b → cond b (Some (position_or_len p xs)) None ≡ None → position_or_len p xs ≡ length xs
      by true lt e = absurd (none-some (position_or_len p xs) (sym e))
      by false lt e = omega (arith, within xs, ltb-false (position_or_len p xs) (length xs) lt)
