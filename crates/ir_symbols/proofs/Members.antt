-- Members of a list that got or lost one, and whether an operation is one.
use Rattle.std.proofs.Common.{◌≡◌, ◌≢◌, ◌⊎◌, inl, inr, ⊎_elim, ℕ, zero, suc, List, [], ◌∷◌, Some, slice_get, insert, remove, refl, sym, ap, ◌∙◌, arith}
use Rattle.std.proofs.lemmas.Option.{same_Some}
use Rattle.ir_program.specs.declared.handles.Operation.{Operation}
use Rattle.ir_program.specs.declared.handles.Ptr.{Ptr}
use Rattle.ir_symbols.proofs.Handles.{same_or_not}

module _ {X : Type 0} where
  -- what is in the longer list is in the shorter one, or is what was put in
  pub in_longer : (xs : List X) (k : ℕ) (x : X) (j : ℕ) (p : X) → slice_get (insert xs k x) j ≡ Some p → ((i : ℕ) × (slice_get xs i ≡ Some p)) ⊎ (p ≡ x)
  in_longer xs zero x zero p h = inr (same_Some p x (sym h))
  in_longer xs zero x (suc j) p h = inl (j, h)
  in_longer [] (suc k) x zero p h = inr (same_Some p x (sym h))
  in_longer [] (suc k) x (suc j) p h = cc
  in_longer (y ∷ ys) (suc k) x zero p h = inl (zero, h)
  in_longer (y ∷ ys) (suc k) x (suc j) p h = ⊎_elim (λ r. inl (suc r.0, r.1)) (λ e. inr e) (in_longer ys k x j p h)

  -- what is in the shorter list is in the longer one
  pub still_in : (xs : List X) (k : ℕ) (x : X) (i : ℕ) (p : X) → slice_get xs i ≡ Some p → (j : ℕ) × (slice_get (insert xs k x) j ≡ Some p)
  still_in xs zero x i p h = (suc i, h)
  still_in [] (suc k) x i p h = cc
  still_in (y ∷ ys) (suc k) x zero p h = (zero, h)
  still_in (y ∷ ys) (suc k) x (suc i) p h = let r = still_in ys k x i p h in (suc r.0, r.1)

  -- what was put in is in the longer list
  pub put_in : (xs : List X) (k : ℕ) (x : X) → (j : ℕ) × (slice_get (insert xs k x) j ≡ Some x)
  put_in xs zero x = (zero, refl)
  put_in [] (suc k) x = (zero, refl)
  put_in (y ∷ ys) (suc k) x = let r = put_in ys k x in (suc r.0, r.1)

  -- what is in the shorter list is in the longer one, at another index than what was taken out
  pub in_shorter : (xs : List X) (k : ℕ) (j : ℕ) (p : X) → slice_get (remove xs k) j ≡ Some p → (i : ℕ) × (slice_get xs i ≡ Some p) × (i ≢ k)
  in_shorter [] zero j p h = cc
  in_shorter [] (suc k) j p h = cc
  in_shorter (x ∷ xs) zero j p h = (suc j, h, λ e. omega (arith, e))
  in_shorter (x ∷ xs) (suc k) zero p h = (zero, h, λ e. omega (arith, e))
  in_shorter (x ∷ xs) (suc k) (suc j) p h = let r = in_shorter xs k j p h in (suc r.0, r.1, λ e. r.2 (omega (arith, e)))

  -- what is in the longer list and wasn't taken out is in the shorter one
  pub not_taken : (xs : List X) (k i : ℕ) (m p : X) → slice_get xs k ≡ Some m → slice_get xs i ≡ Some p → p ≢ m → (j : ℕ) × (slice_get (remove xs k) j ≡ Some p)
  not_taken [] k i m p at here differs = cc
  not_taken (x ∷ xs) zero zero m p at here differs = absurd (differs (same_Some p m (sym here ∙ at)))
  not_taken (x ∷ xs) zero (suc i) m p at here differs = (i, here)
  not_taken (x ∷ xs) (suc k) zero m p at here differs = (zero, here)
  not_taken (x ∷ xs) (suc k) (suc i) m p at here differs = let r = not_taken xs k i m p at here differs in (suc r.0, r.1)

-- the operation is in the list, or isn't
pub in_or_not : (xs : List (Ptr Operation)) (p : Ptr Operation) → ((k : ℕ) × (slice_get xs k ≡ Some p)) ⊎ ((k : ℕ) → slice_get xs k ≡ Some p → ⊥)
in_or_not [] p = inr (λ k at. cc)
in_or_not (x ∷ xs) p = by (in_or_not xs p) (same_or_not x p) where
  none : ((k : ℕ) → slice_get xs k ≡ Some p → ⊥) → x ≢ p → (k : ℕ) → slice_get (x ∷ xs) k ≡ Some p → ⊥
  none further differs zero at = differs (same_Some x p at)
  none further differs (suc k) at = further k at

  by : ((k : ℕ) × (slice_get xs k ≡ Some p)) ⊎ ((k : ℕ) → slice_get xs k ≡ Some p → ⊥) → (x ≡ p) ⊎ (x ≢ p)
      → ((k : ℕ) × (slice_get (x ∷ xs) k ≡ Some p)) ⊎ ((k : ℕ) → slice_get (x ∷ xs) k ≡ Some p → ⊥)
  by further here = ⊎_elim
      (λ is. inl (zero, ap Some is))
      (λ differs. ⊎_elim (λ r. inl (suc r.0, r.1)) (λ no. inr (none no differs)) further)
      here
