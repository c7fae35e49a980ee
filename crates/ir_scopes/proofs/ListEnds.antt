-- Lists with one more at their end.
use Rattle.std.proofs.Common.{◌≡◌, ℕ, suc, zero, List, [], ◌∷◌, ◌++◌, length, Some, slice_get, refl, ap, ◌⊎◌, inl, inr}

module _ {X : Type 0} where
  pub get_more : (xs ys : List X) (j : ℕ) (s : X) → slice_get xs j ≡ Some s → slice_get (xs ++ ys) j ≡ Some s
  get_more [] ys j s h = cc
  get_more (x ∷ xs) ys zero s h = h
  get_more (x ∷ xs) ys (suc j) s h = get_more xs ys j s h

  pub get_last : (xs : List X) (x : X) → slice_get (xs ++ x ∷ []) (length xs) ≡ Some x
  get_last [] x = refl
  get_last (y ∷ ys) x = get_last ys x

  pub get_cases : (xs : List X) (x : X) (j : ℕ) (s : X) → slice_get (xs ++ x ∷ []) j ≡ Some s → (slice_get xs j ≡ Some s) ⊎ ((j ≡ length xs) × (x ≡ s))
  get_cases [] x zero s h = inr (refl, cc)
  get_cases [] x (suc j) s h = inl h
  get_cases (y ∷ ys) x zero s h = inl h
  get_cases (y ∷ ys) x (suc j) s h = elim (get_cases ys x j s h) [ inl e ↦ inl e | inr e ↦ inr (ap suc e.0, e.1) ]
