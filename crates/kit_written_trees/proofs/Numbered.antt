-- Values and blocks by their numbers in the order of their definitions.
use Rattle.std.proofs.Common.{◌≡◌, ◌≢◌, ◌∙◌, ◌⊎◌, inl, inr, ⊎_elim, ℕ, zero, suc, ◌+◌, List, [], ◌∷◌, map, length, Some, refl, ap, sym, slice_get, arith}
use Rattle.std.specs.List.{range_with_len}
use Rattle.std.proofs.lemmas.Option.{none-some}
use Rattle.ir_trees.specs.Searched.{AreDistinct}
use Rattle.opt_trees.specs.Occurrences.{Has}

module _ {X : Type 0} (same : (x y : X) → (x ≡ y) ⊎ (x ≢ y)) where
  -- where something stands first in a list
  abbrev pub place_in : X → List X → ℕ
  place_in v [] = 0
  place_in v (w ∷ ws) = ⊎_elim (λ e. 0) (λ n. suc (place_in v ws)) (same v w)

  found_by : (v w : X) (ws : List X) (told : (v ≡ w) ⊎ (v ≢ w)) → Has v (w ∷ ws)
      → (Has v ws → slice_get ws (place_in v ws) ≡ Some v)
      → slice_get (w ∷ ws) (⊎_elim (λ e. 0) (λ n. suc (place_in v ws)) told) ≡ Some v
  found_by v w ws (inl e) h later = ap Some (sym e)
  found_by v w ws (inr n) (inl e) later = absurd (n e)
  found_by v w ws (inr n) (inr h) later = later h

  -- what is of the list stands there
  pub is_found : (v : X) (ws : List X) → Has v ws → slice_get ws (place_in v ws) ≡ Some v
  is_found v [] h = absurd h
  is_found v (w ∷ ws) h = found_by v w ws (same v w) h (λ later. is_found v ws later)

some_parts : {X : Type 0} (x y : X) → Some x ≡ Some y → x ≡ y
some_parts x y e = cc

pub get_has : {X : Type 0} (x : X) (xs : List X) (i : ℕ) → slice_get xs i ≡ Some x → Has x xs
get_has x [] i e = absurd (none-some x e)
get_has x (y ∷ ys) zero e = inl (sym (some_parts y x e))
get_has x (y ∷ ys) (suc i) e = inr (get_has x ys i e)

pub has_get : {X : Type 0} (x : X) (xs : List X) → Has x xs → (i : ℕ) × (slice_get xs i ≡ Some x)
has_get x [] h = absurd h
has_get x (y ∷ ys) (inl e) = (0, ap Some (sym e))
has_get x (y ∷ ys) (inr h) = let later = has_get x ys h in (suc later.0, later.1)

-- numbers that count up
counts_up : {X : Type 0} (f : X → ℕ) (k : ℕ) (ys : List X) → ((i : ℕ) (v : X) → slice_get ys i ≡ Some v → f v ≡ k + i)
    → map f ys ≡ range_with_len k (length ys)
counts_up f k [] h = refl
counts_up f k (y ∷ ys) h =
    let first : f y ≡ k = (let e = h 0 y refl in omega arith) in
    ap (λ n. n ∷ map f ys) first
    ∙ ap (λ ns. k ∷ ns) (counts_up f (k + 1) ys (λ i v e. let step = h (suc i) v e in omega arith))

module _ {X : Type 0} (same : (x y : X) → (x ≡ y) ⊎ (x ≢ y)) where
  -- what is distinct has the numbers from 0 on
  pub are_numbered : (xs : List X) → AreDistinct xs → map (λ v. place_in same v xs) xs ≡ range_with_len 0 (length xs)
  are_numbered xs distinct = counts_up (λ v. place_in same v xs) 0 xs (λ i v e.
      let one = distinct (place_in same v xs) i v (is_found same v xs (get_has v xs i e)) e in omega arith)
