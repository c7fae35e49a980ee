-- A list is looked through for a terminator that isn't its last item.
use Rattle.std.proofs.Common.{◌≡◌, ℕ, zero, suc, ◌+◌, ◌<◌, ⊎_elim, ◌⊎◌, inl, inr, Bool, true, false, List, [], ◌∷◌, length, Some, slice_get, refl, sym, ap, ◌∙◌, subst, arith}
use Rattle.std.proofs.lemmas.Bool.{both_ways}

module _ {X : Type 0} (test : X → Bool) where
  -- an item that isn't the last passes the test
  pub record IsEarly (xs : List X) : Type 0 where
    pub item : X
    pub index : ℕ
    pub here : slice_get xs index ≡ Some item
    pub early : index + 1 < length xs
    pub passes : test item ≡ true

  -- the item before the ones that are left passes the test, and there are such
  pub record IsFound (found : Bool) (left : List X) : Type 0 where
    pub before : found ≡ true
    pub more : left ≡ [] → ⊥

  -- so it is where the list has been looked through up to `left`
  pub record IsLooked (xs : List X) (found : Bool) (left : List X) : Type 0 where
    pub back : IsEarly xs → IsFound found left ⊎ IsEarly left
    pub found_early : IsFound found left → IsEarly xs
    pub left_early : IsEarly left → IsEarly xs

  pub looked-first : (xs : List X) → IsLooked xs false xs
  looked-first xs = record { back = λ e. inr e; found_early = λ f. absurd (both_ways false refl f.before); left_early = λ e. e }

  later-early : (x : X) (left : List X) → IsEarly left → IsEarly (x ∷ left)
  later-early x left e = record { item = e.item; index = suc e.index; here = e.here; early = let h : e.index + 1 < length left = e.early in omega arith; passes = e.passes }

  not_empty : (left : List X) → 1 < suc (length left) → left ≡ [] → ⊥
  not_empty left h e = let n : length left ≡ 0 = ap length e in omega (arith, h, n)

  filled : (left : List X) → (left ≡ [] → ⊥) → 1 < suc (length left)
  filled [] some = absurd (some refl)
  filled (x ∷ left) some = omega arith

  early-first : (x : X) (left : List X) → IsEarly (x ∷ left) → IsFound (test x) left ⊎ IsEarly left
  early-first x left e = by e.index refl
    where
      by : (k : ℕ) → e.index ≡ k → IsFound (test x) left ⊎ IsEarly left
      by zero is =
          let h : Some x ≡ Some e.item = sym (ap (λ k. slice_get (x ∷ left) k) is) ∙ e.here in
          let same : e.item ≡ x = cc in
          let more : e.index + 1 < suc (length left) = e.early in
          inl (record { before = subst (λ y. test y ≡ true) same e.passes; more = not_empty left (subst (λ k. k + 1 < suc (length left)) is more) })
      by (suc k) is =
          let early : e.index + 1 < suc (length left) = e.early in
          inr (record { item = e.item; index = k; here = sym (ap (λ j. slice_get (x ∷ left) j) is) ∙ e.here; early = omega (arith, early, is); passes = e.passes })

  pub looked-next : (xs : List X) (found : Bool) (was left : List X) (x : X) → was ≡ x ∷ left → found ≡ false → IsLooked xs found was → IsLooked xs (test x) left
  looked-next xs found was left x is none looked =
      let seen : IsLooked xs found (x ∷ left) = subst (IsLooked xs found) is looked in record {
        back = λ e. ⊎_elim (λ f. absurd (both_ways found none f.before)) (λ l. early-first x left l) (seen.back e);
        found_early = λ f. seen.left_early (record { item = x; index = 0; here = refl; early = filled left f.more; passes = f.before });
        left_early = λ e. seen.left_early (later-early x left e);
      }

  pub looked-found : (xs : List X) (found : Bool) (was left : List X) (x : X) → was ≡ x ∷ left → found ≡ true → IsLooked xs found was → IsEarly xs
  looked-found xs found was left x is h looked = looked.found_early (record { before = h; more = λ e. let no_way : x ∷ left ≡ [] = sym is ∙ e in cc })

  pub looked-over : (xs : List X) (found : Bool) (was : List X) → was ≡ [] → IsLooked xs found was → IsEarly xs → ⊥
  looked-over xs found was is looked e = ⊎_elim (λ f. f.more is) (λ l. let early : l.index + 1 < length was = l.early in let none : length was ≡ 0 = ap length is in omega (arith, early, none)) (looked.back e)
