-- Keys of a list that holds equal ones once, by their places.
use Rattle.std.proofs.Common.{true≢false, ◌≡◌, ◌⊎◌, inl, inr, ℕ, zero, suc, ◌<◌, Bool, true, false, cond, List, [], ◌∷◌, ◌++◌, length, slice_get, get_or, position, Some, refl, sym, ap, ◌∙◌, arith}
use Rattle.std.specs.Cmp.{IsEquivalence}
use Rattle.std.specs.List.{IsDistinct, list_any, position_or_len}
use Rattle.std.proofs.lemmas.Bool.{cases_order}
use Rattle.std.proofs.lemmas.List.Folds.{list_any_at}
use Rattle.std.proofs.lemmas.List.Quantifiers.{position-Some}
use Rattle.std.proofs.lemmas.List.Sums.{position_or_len_is}
use Rattle.std.proofs.lemmas.Option.{slice_get_within, get_or_from_slice_get, slice_get-get_or}
use Rattle.std.proofs.lemmas.Map.Keys.{apart_from_distinct}
use Rattle.indexmap.specs.IndexSet.{insert_key}

module _ {X : Type 0} where
  -- what stands before the elements that are put behind it
  slice_get-append_kept : (xs ys : List X) (i : ℕ) (x : X) → slice_get xs i ≡ Some x → slice_get (xs ++ ys) i ≡ Some x
  slice_get-append_kept [] ys i x e = cc
  slice_get-append_kept (z ∷ zs) ys zero x e = e
  slice_get-append_kept (z ∷ zs) ys (suc i) x e = slice_get-append_kept zs ys i x e

  -- the same as an equation
  pub slice_get-append_within : (xs ys : List X) (i : ℕ) → i < length xs → slice_get (xs ++ ys) i ≡ slice_get xs i
  slice_get-append_within [] ys i h = absurd (omega arith)
  slice_get-append_within (z ∷ zs) ys zero h = refl
  slice_get-append_within (z ∷ zs) ys (suc i) h = slice_get-append_within zs ys i (omega arith)

  kept_by_choice : (b : Bool) (xs : List X) (y : X) (i : ℕ) (x : X) → slice_get xs i ≡ Some x → slice_get (cond b xs (xs ++ y ∷ [])) i ≡ Some x
  kept_by_choice true xs y i x e = e
  kept_by_choice false xs y i x e = slice_get-append_kept xs (y ∷ []) i x e

  -- a key keeps its place when another is inserted
  pub slice_get-insert_key : (eq : X → X → Bool) (xs : List X) (y : X) (i : ℕ) (x : X) → slice_get xs i ≡ Some x → slice_get (insert_key eq xs y) i ≡ Some x
  slice_get-insert_key eq xs y i x e = kept_by_choice (list_any (eq y) xs) xs y i x e

  -- a key that is found isn't put in again
  pub insert_key-found : (eq : X → X → Bool) (xs : List X) (y : X) → list_any (eq y) xs ≡ true → insert_key eq xs y ≡ xs
  insert_key-found eq xs y e = ap (λ b. cond b xs (xs ++ y ∷ [])) e

  module _ (eq : X → X → Bool) where
    -- equal keys stand at one place
    abbrev pub IsOnce : List X → Type 0
    IsOnce xs = (i j : ℕ) (x y : X) → slice_get xs i ≡ Some x → slice_get xs j ≡ Some y → eq x y ≡ true → i ≡ j

    apart_keys : (xs : List X) (i j : ℕ) (x y : X) → IsDistinct eq xs → slice_get xs i ≡ Some x → slice_get xs j ≡ Some y → i < j → eq x y ≡ false
    apart_keys xs i j x y d a b h =
        let far = apart_from_distinct eq xs i j x d h (slice_get_within xs j y b) in
        let first : get_or xs i x ≡ x = get_or_from_slice_get xs i x x a in
        let second : get_or xs j x ≡ y = get_or_from_slice_get xs j y x b in
        cc (far, first, second)

    module _ (laws : IsEquivalence eq) where
      -- keys of which none equals another
      pub once_from_distinct : (xs : List X) → IsDistinct eq xs → IsOnce xs
      once_from_distinct xs d i j x y a b same = by (cases_order i j)
        where
          by : (i ≡ j) ⊎ ((i < j) ⊎ (j < i)) → i ≡ j
          by (inl e) = e
          by (inr (inl h)) = let apart : eq x y ≡ false = apart_keys xs i j x y d a b h in cc
          by (inr (inr h)) = let apart : eq y x ≡ false = apart_keys xs j i y x d b a h in let flip : eq x y ≡ eq y x = laws.symm x y in cc

      module _ (xs : List X) (once : IsOnce xs) where
        -- places are equal exactly where their keys are
        pub same_place : (i j : ℕ) (x y : X) → slice_get xs i ≡ Some x → slice_get xs j ≡ Some y → (i ≡ j → eq x y ≡ true) × (eq x y ≡ true → i ≡ j)
        same_place i j x y a b = (λ (h : i ≡ j). let reflexive : eq x x ≡ true = laws.refl x in cc, once i j x y a b)

        module _ (key : X) where
          -- the place of a key that equals the given one is that of the stored key
          pub place-of_key : (stored : X) (place : ℕ) → slice_get xs place ≡ Some stored → eq key stored ≡ true → (i : ℕ) (kept : X) → slice_get xs i ≡ Some kept → (i ≡ place → eq key kept ≡ true) × (eq key kept ≡ true → i ≡ place)
          place-of_key stored place a same i kept e = (
            λ (h : i ≡ place). cc,
            λ (h : eq key kept ≡ true).
                let through : eq key kept ≡ eq stored kept = laws.congr key stored kept same in
                let meet : place ≡ i = once place i stored kept a e (sym through ∙ h) in
                sym meet,
          )

          module _ (i : ℕ) (kept : X) (at : slice_get xs i ≡ Some kept) (same : eq key kept ≡ true) where
            here : get_or xs i key ≡ kept
            here = get_or_from_slice_get xs i kept key at

            within : i < length xs
            within = slice_get_within xs i kept at

            -- a key that equals one of the list is found
            pub found : list_any (eq key) xs ≡ true
            found = list_any_at (eq key) xs i key within (ap (eq key) here ∙ same)

            earlier : (k : ℕ) → k < i → eq key (get_or xs k key) ≡ false
            earlier k h = by (eq key (get_or xs k key)) refl
              where
                by : (b : Bool) → eq key (get_or xs k key) ≡ b → b ≡ false
                by false e = refl
                by true e =
                    let there : slice_get xs k ≡ Some (get_or xs k key) = slice_get-get_or xs k key (omega (arith, within)) in
                    let meet : k ≡ i = (place-of_key kept i at same k (get_or xs k key) there).1 e in
                    absurd (omega arith)

            -- and its place is that of the one that it equals
            pub first_place : position_or_len (eq key) xs ≡ i
            first_place = position_or_len_is (eq key) xs i key (omega (arith, within)) earlier (λ _. ap (eq key) here ∙ same)

  -- the key at the place that was found for another, which equals it
  pub stored_there : (eq : X → X → Bool) (xs : List X) (key : X) (i : ℕ) → Some i ≡ position (eq key) xs → (kept : X) × (slice_get xs i ≡ Some kept) × (eq key kept ≡ true)
  stored_there eq xs key i e = let p = position-Some (eq key) xs i key (sym e) in (get_or xs i key, slice_get-get_or xs i key p.0, p.1)

-- a key that isn't found is put behind the others
pub place-fresh : {X : Type 0} (test : X → Bool) (xs : List X) (d : X) → list_any test xs ≡ false → position_or_len test xs ≡ length xs
place-fresh test xs d none = position_or_len_is test xs (length xs) d (omega arith) fails (λ h. absurd (omega arith))
  where
    fails : (k : ℕ) → k < length xs → test (get_or xs k d) ≡ false
    fails k h = by (test (get_or xs k d)) refl
      where
        by : (b : Bool) → test (get_or xs k d) ≡ b → b ≡ false
        by false e = refl
        by true e = absurd (true≢false (sym (list_any_at test xs k d h e) ∙ none))
