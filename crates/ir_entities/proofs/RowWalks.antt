-- How far a walk over a row of places has come.
use Rattle.std.proofs.Common.{◌≡◌, ◌≢◌, ⊎_elim, ℕ, ◌+◌, ◌<◌, ◌≤◌, List, length, get_or, slice_get, Option, Some, None, refl, sym, ap, ◌∙◌, arith}
use Rattle.std.proofs.lemmas.Bool.{cases_eq}
use Rattle.std.proofs.lemmas.Option.{slice_get-get_or}
use Rattle.ir_entities.specs.Uses.{PlaceOfUse, at_index}
use Rattle.ir_entities.specs.Placed.{IsDistinctRow}
use Rattle.ir_entities.proofs.Placed.{the_item}

-- the places of a row from index `from` to index `to` have their indices; each other place is as it was
pub record RenumbersTo (place new : ℕ → Option PlaceOfUse) (row : List ℕ) (from to : ℕ) : Type 0 where
  pub later : (j q : ℕ) → from ≤ j → j < to → slice_get row j ≡ Some q → new q ≡ at_index j (place q)
  pub others : (q : ℕ) → ((j : ℕ) → from ≤ j → j < to → slice_get row j ≡ Some q → ⊥) → new q ≡ place q

-- the places of a row up to index `to` are out of use; each other place is as it was
pub record ReleasesTo (place new : ℕ → Option PlaceOfUse) (row : List ℕ) (to : ℕ) : Type 0 where
  pub gone : (k q : ℕ) → k < to → slice_get row k ≡ Some q → new q ≡ None
  pub others : (q : ℕ) → ((k : ℕ) → k < to → slice_get row k ≡ Some q → ⊥) → new q ≡ place q

-- the next place of the row
module _ (place at : ℕ → Option PlaceOfUse) (row : List ℕ) (to : ℕ) (within : to < length row) where
  abbrev next : ℕ
  next = get_or row to 0

  pub stands_next : slice_get row to ≡ Some (get_or row to 0)
  stands_next = slice_get-get_or row to 0 within

  -- where another place stands, it stands before
  stands_before : (k q : ℕ) → k < to + 1 → q ≢ next → slice_get row k ≡ Some q → k < to
  stands_before k q lt other e = ⊎_elim
      (λ (same : k ≡ to). absurd (other (the_item q next (sym e ∙ (ap (slice_get row) same ∙ stands_next)))))
      (λ differ. omega (arith, differ))
      (cases_eq k to)

  module _ (distinct : IsDistinctRow row) where
    stood_once : (k q : ℕ) → k < to → q ≡ next → slice_get row k ≡ Some q → ⊥
    stood_once k q lt same e = let one = distinct k to q e (stands_next ∙ ap Some (sym same)) in omega (arith, one)

    pub release_keeps : ReleasesTo place at row to → at (get_or row to 0) ≡ place (get_or row to 0)
    release_keeps h = h.others next (λ k lt e. stood_once k next lt refl e)

    pub renumber_keeps : (from : ℕ) → RenumbersTo place at row from to → at (get_or row to 0) ≡ place (get_or row to 0)
    renumber_keeps from h = h.others next (λ k _ lt e. stood_once k next lt refl e)

  -- once it is out of use
  pub release_more : (new : ℕ → Option PlaceOfUse) → ReleasesTo place at row to → new (get_or row to 0) ≡ None → ((q : ℕ) → q ≢ get_or row to 0 → new q ≡ at q) → ReleasesTo place new row (to + 1)
  release_more new h changed others = record {
    gone = λ k q lt e. ⊎_elim
        (λ (same : q ≡ next). ap new same ∙ changed)
        (λ other. others q other ∙ h.gone k q (stands_before k q lt other e) e)
        (cases_eq q next);
    others = λ q out. others q (λ same. out to (omega arith) (stands_next ∙ ap Some (sym same))) ∙ h.others q (λ k lt e. out k (omega arith) e);
  }

  -- once it has its index
  pub renumber_more : (new : ℕ → Option PlaceOfUse) (from : ℕ) → IsDistinctRow row → from ≤ to → RenumbersTo place at row from to → new (get_or row to 0) ≡ at_index to (at (get_or row to 0))
      → ((q : ℕ) → q ≢ get_or row to 0 → new q ≡ at q) → RenumbersTo place new row from (to + 1)
  renumber_more new from distinct le h changed others = record {
    later = λ j q far lt e. ⊎_elim
        (λ (same : q ≡ next). let here : j ≡ to = distinct j to q e (stands_next ∙ ap Some (sym same)) in
        rw (same, here) (changed ∙ ap (at_index to) (renumber_keeps distinct from h)))
        (λ other. others q other ∙ h.later j q far (stands_before j q lt other e) e)
        (cases_eq q next);
    others = λ q out. others q (λ same. out to le (omega arith) (stands_next ∙ ap Some (sym same))) ∙ h.others q (λ k far lt e. out k far (omega arith) e);
  }
