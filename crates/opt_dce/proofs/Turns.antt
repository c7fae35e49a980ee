-- Turns of a loop over a list of things with different keys.
use Rattle.std.proofs.Common.{◌≡◌, ◌≢◌, ◌⊎◌, inl, inr, ⊎_elim, ℕ, zero, suc, ◌+◌, ◌<◌, List, [], ◌∷◌, length, take, Option, Some, None, option_map, slice_get, refl, sym, ap, ◌∙◌, arith}
use Rattle.ir_trees.specs.Searched.{Lists}

-- below the next index is below this one, or this one
below_or_at : (k i : ℕ) → k < i + 1 → (k < i) ⊎ (k ≡ i)
below_or_at zero zero h = inr refl
below_or_at zero (suc i) h = inl (omega arith)
below_or_at (suc k) zero h = absurd (omega arith)
below_or_at (suc k) (suc i) h = ⊎_elim (λ l. inl (omega arith)) (λ e. inr (ap suc e)) (below_or_at k i (omega arith))

module _ {X : Type 0} where
  -- the first elements, by index
  pub taken : (xs : List X) (i k : ℕ) (y : X) → slice_get (take i xs) k ≡ Some y → (k < i) × (slice_get xs k ≡ Some y)
  taken [] zero k y h = cc
  taken [] (suc i) k y h = cc
  taken (x ∷ xs) zero k y h = cc
  taken (x ∷ xs) (suc i) zero y h = (omega arith, h)
  taken (x ∷ xs) (suc i) (suc k) y h = let r = taken xs i k y h in (omega (arith, r.0), r.1)

  taken_still : (xs : List X) (i k : ℕ) (y : X) → k < i → slice_get xs k ≡ Some y → slice_get (take i xs) k ≡ Some y
  taken_still [] i k y lt h = cc
  taken_still (x ∷ xs) zero k y lt h = absurd (omega arith)
  taken_still (x ∷ xs) (suc i) zero y lt h = h
  taken_still (x ∷ xs) (suc i) (suc k) y lt h = taken_still xs i k y (omega arith) h

  pub there_within : (xs : List X) (i : ℕ) → i < length xs → (x : X) × (slice_get xs i ≡ Some x)
  there_within [] i lt = absurd (omega arith)
  there_within (x ∷ xs) zero lt = (x, refl)
  there_within (x ∷ xs) (suc i) lt = there_within xs i (omega arith)

module _ {X K : Type 0} (key : X → K) (xs : List X) (once : (j k : ℕ) (x y : X) → slice_get xs j ≡ Some x → slice_get xs k ≡ Some y → key x ≡ key y → j ≡ k) (i : ℕ) (x : X) (here : slice_get xs i ≡ Some x) where
  pub not_before : (y : X) → Lists (take i xs) y → key y ≢ key x
  not_before y h same =
      let t = taken xs i h.0 y h.1 in
      let e : h.0 ≡ i = once h.0 i y x t.1 here same in
      let lt : h.0 < i = t.0 in
      absurd (omega arith)

  pub before_or_it : (y : X) → Lists (take (i + 1) xs) y → Lists (take i xs) y ⊎ (y ≡ x)
  before_or_it y h =
      let t = taken xs (i + 1) h.0 y h.1 in
      ⊎_elim
      (λ lt. inl (h.0, taken_still xs i h.0 y lt t.1))
      (λ (e : h.0 ≡ i). let s : Some y ≡ Some x = sym t.1 ∙ ap (slice_get xs) e ∙ here in let same : y ≡ x = cc in inr same)
      (below_or_at h.0 i t.0)

  pub it_next : Lists (take (i + 1) xs) x
  it_next = (i, taken_still xs (i + 1) i x (omega arith) here)

  pub before_next : (y : X) → Lists (take i xs) y → Lists (take (i + 1) xs) y
  before_next y h = let t = taken xs i h.0 y h.1 in let lt : h.0 < i = t.0 in (h.0, taken_still xs (i + 1) h.0 y (omega arith) t.1)

-- two changes of what is there, one after the other
pub mapped_twice : {X Y Z : Type 0} (f : X → Y) (h : Y → Z) (k : X → Z) → ((x : X) → h (f x) ≡ k x) → (o : Option X) → option_map h (option_map f o) ≡ option_map k o
mapped_twice f h k e None = refl
mapped_twice f h k e (Some x) = ap Some (e x)
