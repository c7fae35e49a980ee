-- What an edit of one user's row leaves, once the places behind it have their indices.
use Rattle.std.proofs.Common.{◌≡◌, ◌≢◌, ◌⊎◌, inl, inr, ℕ, zero, suc, ◌+◌, ◌-◌, ◌<◌, ◌≤◌, List, [], length, insert, remove, slice_get, Option, Some, None, refl, sym, ap, ◌∙◌, arith}
use Rattle.std.proofs.lemmas.Bool.{cases_order}
use Rattle.ir_entities.specs.Uses.{PlaceOfUse, at_index}
use Rattle.ir_entities.specs.Placed.{place_at, IsPlaced, shifted_up, shifted_down, KeepsOtherRows, PushesPlace, InsertsPlace, RemovesPlace, ClearsRow, IsDistinctRow, ReleasesPlaces, Renumbers}
use Rattle.ir_entities.specs.Rows.{IsRowOf, PushesIn, InsertsIn, RemovesIn}
use Rattle.ir_entities.proofs.Placed.{differ, below_or_not, at_most_or_not, insert-before, insert-at, insert-behind, remove-before, remove-behind, no_place, the_item, up_other, up_before, up_behind, down_other, down_before, down_behind, own, user_kept, index_kept}

-- a row among those that hold all places is that of its user
pub placed-row : (place : ℕ → Option PlaceOfUse) (row : ℕ → List ℕ) (i : ℕ) → IsPlaced place row → IsRowOf place (row i) i
placed-row place row i placed = record {
  held = λ k p e. placed.held i k p e;
  all = λ p x e h. ap (λ (u : ℕ). slice_get (row u) x.index) (sym h) ∙ placed.all p x e;
}

-- an edit of one row, where the others stay
module _ (place new : ℕ → Option PlaceOfUse) (row rows : ℕ → List ℕ) (i : ℕ) (rest : KeepsOtherRows row rows i) where
  pub pushes-place : (p d : ℕ) → PushesIn place new (row i) (rows i) i p d → PushesPlace place new row rows i p d
  pushes-place p d pushes = record { fresh = pushes.fresh; changed = pushes.changed; rest = rest; here = pushes.here; others = pushes.others }

  pub inserts-place : (k p d : ℕ) → InsertsIn place new (row i) (rows i) i k p d → InsertsPlace place new row rows i k p d
  inserts-place k p d inserts = record { within = inserts.within; fresh = inserts.fresh; changed = inserts.changed; rest = rest; here = inserts.here; others = inserts.others }

  pub removes-place : (k p : ℕ) → RemovesIn place new (row i) (rows i) i k p → RemovesPlace place new row rows i k p
  removes-place k p removes = record { stood = removes.stood; changed = removes.changed; rest = rest; gone = removes.gone; others = removes.others }

  pub clears-row : ReleasesPlaces place new (row i) → rows i ≡ [] → ClearsRow place new row rows i
  clears-row releases e = record { changed = e; rest = rest; gone = releases.gone; others = releases.others }

module _ (place : ℕ → Option PlaceOfUse) (row : List ℕ) (i : ℕ) (rowed : IsRowOf place row i) where
  pub row-distinct : IsDistinctRow row
  row-distinct j k p e f =
      let first = rowed.held j p e in
      let second = rowed.held k p f in
      index_kept (place_at first.0 i j) (place_at second.0 i k) (sym first.1 ∙ second.1)

  -- what stands in a row is in use
  pub row-used : (k p : ℕ) → slice_get row k ≡ Some p → place p ≡ None → ⊥
  row-used k p e h = let its = rowed.held k p e in no_place _ (sym h ∙ its.1)

  -- where an item of the row stood before p came in at index k
  came : (k p : ℕ) → k ≤ length row → (j q : ℕ) → slice_get (insert row k p) j ≡ Some q → ((j ≡ k) × (q ≡ p)) ⊎ ((l : ℕ) × (slice_get row l ≡ Some q) × (((l < k) × (j ≡ l)) ⊎ ((k ≤ l) × (j ≡ suc l))))
  came k p within j q e = by j e (cases_order j k)
    where
      by : (j : ℕ) → slice_get (insert row k p) j ≡ Some q → (j ≡ k) ⊎ ((j < k) ⊎ (k < j)) → ((j ≡ k) × (q ≡ p)) ⊎ ((l : ℕ) × (slice_get row l ≡ Some q) × (((l < k) × (j ≡ l)) ⊎ ((k ≤ l) × (j ≡ suc l))))
      by j e (inl h) = inl (h, the_item q p (sym e ∙ (ap (slice_get (insert row k p)) h ∙ insert-at row k p within)))
      by j e (inr (inl h)) = inr (j, sym (insert-before row k p j within h) ∙ e, inl (h, refl))
      by zero e (inr (inr h)) = absurd (omega arith)
      by (suc l) e (inr (inr h)) =
          let behind : k ≤ l = omega arith in
          inr (l, sym (insert-behind row k p l within behind) ∙ e, inr (behind, refl))

  -- a place that was not in use comes in beside those of the row
  pub inserted-distinct : (k p : ℕ) → k ≤ length row → place p ≡ None → IsDistinctRow (insert row k p)
  inserted-distinct k p within fresh i j q e f = by (came k p within i q e) (came k p within j q f)
    where
      by : ((i ≡ k) × (q ≡ p)) ⊎ ((l : ℕ) × (slice_get row l ≡ Some q) × (((l < k) × (i ≡ l)) ⊎ ((k ≤ l) × (i ≡ suc l))))
          → ((j ≡ k) × (q ≡ p)) ⊎ ((l : ℕ) × (slice_get row l ≡ Some q) × (((l < k) × (j ≡ l)) ⊎ ((k ≤ l) × (j ≡ suc l)))) → i ≡ j
      by (inl g) (inl h) = g.0 ∙ sym h.0
      by (inl g) (inr h) = absurd (row-used h.0 q h.1 (ap place g.1 ∙ fresh))
      by (inr g) (inl h) = absurd (row-used g.0 q g.1 (ap place h.1 ∙ fresh))
      by (inr g) (inr h) = let one : g.0 ≡ h.0 = row-distinct g.0 h.0 q g.1 h.1 in grind (arith, one, g.2, h.2)

  -- those behind index k are in use, and none of them is p
  pub inserted-used : (k p : ℕ) → k ≤ length row → place p ≡ None → (j q : ℕ) → k + 1 ≤ j → slice_get (insert row k p) j ≡ Some q → ((d : ℕ) × (l : ℕ) × (place q ≡ Some (place_at d i l))) × (q ≢ p)
  inserted-used k p within fresh j q h e = by (came k p within j q e)
    where
      by : ((j ≡ k) × (q ≡ p)) ⊎ ((l : ℕ) × (slice_get row l ≡ Some q) × (((l < k) × (j ≡ l)) ⊎ ((k ≤ l) × (j ≡ suc l)))) → ((d : ℕ) × (l : ℕ) × (place q ≡ Some (place_at d i l))) × (q ≢ p)
      by (inl g) = let at : j ≡ k = g.0 in absurd (omega arith)
      by (inr g) = let its = rowed.held g.0 q g.1 in ((its.0, g.0, its.1), λ s. row-used g.0 q g.1 (ap place s ∙ fresh))

  -- where an item of the row stood before the one at index k went out
  stayed : (k j q : ℕ) → slice_get (remove row k) j ≡ Some q → (l : ℕ) × (slice_get row l ≡ Some q) × (((l < k) × (j ≡ l)) ⊎ ((k < l) × (l ≡ suc j)))
  stayed k j q e = by (below_or_not j k)
    where
      by : (j < k) ⊎ (k ≤ j) → (l : ℕ) × (slice_get row l ≡ Some q) × (((l < k) × (j ≡ l)) ⊎ ((k < l) × (l ≡ suc j)))
      by (inl h) = (j, sym (remove-before row k j h) ∙ e, inl (h, refl))
      by (inr h) = (suc j, sym (remove-behind row k j h) ∙ e, inr (omega arith, refl))

  pub removed-distinct : (k : ℕ) → IsDistinctRow (remove row k)
  removed-distinct k i j q e f =
      let g = stayed k i q e in
      let h = stayed k j q f in
      let one : g.0 ≡ h.0 = row-distinct g.0 h.0 q g.1 h.1 in
      grind (arith, one, g.2, h.2)

  -- what is left is in use, and is not the place that went out
  pub removed-used : (k p : ℕ) → slice_get row k ≡ Some p → (j q : ℕ) → slice_get (remove row k) j ≡ Some q → ((d : ℕ) × (l : ℕ) × (place q ≡ Some (place_at d i l))) × (q ≢ p)
  removed-used k p stood j q e =
      let g = stayed k j q e in
      let its = rowed.held g.0 q g.1 in
      ((its.0, g.0, its.1), λ s. let one : g.0 ≡ k = row-distinct g.0 k q g.1 (stood ∙ ap Some (sym s)) in elsewhere g.0 one g.2)
    where
      elsewhere : (l : ℕ) → l ≡ k → ((l < k) × (j ≡ l)) ⊎ ((k < l) × (l ≡ suc j)) → ⊥
      elsewhere l one (inl h) = let less : l < k = h.0 in omega arith
      elsewhere l one (inr h) = let more : k < l = h.0 in omega arith

-- a row whose later places get their indices once another came in or went out
module _ (place mid new : ℕ → Option PlaceOfUse) (row rows : List ℕ) (i k p : ℕ) (rowed : IsRowOf place row i) (same : (q : ℕ) → q ≢ p → mid q ≡ place q) where
  own_user : (q j : ℕ) (y : PlaceOfUse) → place q ≡ Some y → slice_get row j ≡ Some q → (y.user ≡ i) × (y.index ≡ j)
  own_user q j y e s =
      let its = rowed.held j q s in
      let one : Some y ≡ Some (place_at its.0 i j) = sym e ∙ its.1 in
      (user_kept y (place_at its.0 i j) one, index_kept y (place_at its.0 i j) one)

  module _ (d : ℕ) (within : k ≤ length row) (fresh : place p ≡ None) (changed : rows ≡ insert row k p) (here : mid p ≡ Some (place_at d i k)) (renumbers : Renumbers mid new rows (k + 1)) where
    -- what stands behind the new place stood one index before
    came_from : (j q : ℕ) → k + 1 ≤ j → slice_get rows j ≡ Some q → (l : ℕ) × (j ≡ suc l) × (slice_get row l ≡ Some q)
    came_from zero q h e = absurd (omega arith)
    came_from (suc l) q h e = (l, refl, sym (insert-behind row k p l within (omega arith)) ∙ (sym (ap (λ (xs : List ℕ). slice_get xs (suc l)) changed) ∙ e))

    stays_in : (o : Option PlaceOfUse) (q : ℕ) → q ≢ p → place q ≡ o → new q ≡ shifted_up i k o
    stays_in None q n e =
        let out : (j : ℕ) → k + 1 ≤ j → slice_get rows j ≡ Some q → ⊥ = λ j h s. let from = came_from j q h s in row-used place row i rowed from.0 q from.2 e in
        renumbers.others q out ∙ (same q n ∙ e)
    stays_in (Some y) q n e = by (differ y.user i)
      where
        at_rest : ((l : ℕ) → k ≤ l → slice_get row l ≡ Some q → ⊥) → new q ≡ Some y
        at_rest h =
            let out : (j : ℕ) → k + 1 ≤ j → slice_get rows j ≡ Some q → ⊥ = λ j g s. let from = came_from j q g s in let index : j ≡ suc from.0 = from.1 in h from.0 (omega arith) from.2 in
            renumbers.others q out ∙ (same q n ∙ e)

        step : y.user ≡ i → (y.index < k) ⊎ (k ≤ y.index) → new q ≡ shifted_up i k (Some y)
        step h (inl l) =
            let rests : new q ≡ Some y = at_rest (λ j g s. let index : y.index ≡ j = (own_user q j y e s).1 in omega arith) in
            rests ∙ (ap Some (own i y h) ∙ (sym (up_before i k y.definition y.index l) ∙ ap (λ (z : PlaceOfUse). shifted_up i k (Some z)) (sym (own i y h))))
        step h (inr l) =
            let stood : slice_get row y.index ≡ Some q = rowed.all q y e h in
            let stands : slice_get rows (suc y.index) ≡ Some q = ap (λ (xs : List ℕ). slice_get xs (suc y.index)) changed ∙ (insert-behind row k p y.index within l ∙ stood) in
            renumbers.later (suc y.index) q (omega arith) stands ∙ (ap (at_index (suc y.index)) (same q n ∙ (e ∙ ap Some (own i y h))) ∙ (sym (up_behind i k y.definition y.index l) ∙ ap (λ (z : PlaceOfUse). shifted_up i k (Some z)) (sym (own i y h))))

        by : (y.user ≡ i) ⊎ (y.user ≢ i) → new q ≡ shifted_up i k (Some y)
        by (inl h) = step h (below_or_not y.index k)
        by (inr h) = at_rest (λ l g s. h (own_user q l y e s).0) ∙ sym (up_other i k y h)

    -- a place came in at index k, and those behind it got their indices
    pub renumbered-inserts : InsertsIn place new row rows i k p d
    renumbered-inserts = record {
      within = within;
      fresh = fresh;
      changed = changed;
      here = renumbers.others p (λ j h s. let from = came_from j p h s in row-used place row i rowed from.0 p from.2 fresh) ∙ here;
      others = λ q n. stays_in (place q) q n refl;
    }

  module _ (stood : slice_get row k ≡ Some p) (changed : rows ≡ remove row k) (gone : mid p ≡ None) (renumbers : Renumbers mid new rows k) where
    -- what stands behind the place of the removal stood one index later
    went_from : (j q : ℕ) → k ≤ j → slice_get rows j ≡ Some q → slice_get row (suc j) ≡ Some q
    went_from j q h e = sym (remove-behind row k j h) ∙ (sym (ap (λ (xs : List ℕ). slice_get xs j) changed) ∙ e)

    leaves : (o : Option PlaceOfUse) (q : ℕ) → q ≢ p → place q ≡ o → new q ≡ shifted_down i k o
    leaves None q n e = renumbers.others q (λ j h s. row-used place row i rowed (suc j) q (went_from j q h s) e) ∙ (same q n ∙ e)
    leaves (Some y) q n e = by (differ y.user i)
      where
        at_rest : ((j : ℕ) → k ≤ j → slice_get row (suc j) ≡ Some q → ⊥) → new q ≡ Some y
        at_rest h = renumbers.others q (λ j g s. h j g (went_from j q g s)) ∙ (same q n ∙ e)

        step : y.user ≡ i → (y.index ≤ k) ⊎ (k < y.index) → new q ≡ shifted_down i k (Some y)
        step h (inl l) =
            let rests : new q ≡ Some y = at_rest (λ j g s. let index : y.index ≡ suc j = (own_user q (suc j) y e s).1 in omega arith) in
            rests ∙ (ap Some (own i y h) ∙ (sym (down_before i k y.definition y.index l) ∙ ap (λ (z : PlaceOfUse). shifted_down i k (Some z)) (sym (own i y h))))
        step h (inr l) =
            let was : slice_get row y.index ≡ Some q = rowed.all q y e h in
            let more : suc (y.index - 1) ≡ y.index = omega arith in
            let stands : slice_get rows (y.index - 1) ≡ Some q = ap (λ (xs : List ℕ). slice_get xs (y.index - 1)) changed ∙ (remove-behind row k (y.index - 1) (omega arith) ∙ (ap (slice_get row) more ∙ was)) in
            renumbers.later (y.index - 1) q (omega arith) stands ∙ (ap (at_index (y.index - 1)) (same q n ∙ (e ∙ ap Some (own i y h))) ∙ (sym (down_behind i k y.definition y.index l) ∙ ap (λ (z : PlaceOfUse). shifted_down i k (Some z)) (sym (own i y h))))

        by : (y.user ≡ i) ⊎ (y.user ≢ i) → new q ≡ shifted_down i k (Some y)
        by (inl h) = step h (at_most_or_not y.index k)
        by (inr h) = at_rest (λ j g s. h (own_user q (suc j) y e s).0) ∙ sym (down_other i k y h)

    -- the place at index k went out, and those behind it got their indices
    pub renumbered-removes : RemovesIn place new row rows i k p
    renumbered-removes = record {
      stood = stood;
      changed = changed;
      gone = renumbers.others p (λ j h s. let twice : k ≡ suc j = row-distinct place row i rowed k (suc j) p stood (went_from j p h s) in omega arith) ∙ gone;
      others = λ q n. leaves (place q) q n refl;
    }
