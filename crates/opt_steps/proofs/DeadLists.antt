-- Lists that are mapped.
use Rattle.std.proofs.Common.{◌≡◌, ◌⊎◌, inl, inr, ⊎_elim, ℕ, zero, suc, ◌+◌, ◌<◌, List, [], ◌∷◌, ◌++◌, length, Some, refl, sym, ap, ◌∙◌, arith}
use Rattle.std.specs.Prelude.{Contains, map, slice_get}
use Rattle.std.proofs.lemmas.Option.{same_Some, none-some}

-- what is at an index within a list
pub there_is : {X : Type 0} (xs : List X) (i : ℕ) → i < length xs → (x : X) × (slice_get xs i ≡ Some x)
there_is [] i h = absurd (omega (arith, h))
there_is (x ∷ xs) zero h = (x, refl)
there_is (x ∷ xs) (suc i) h = there_is xs i (omega (arith, h))

pub none_in : {X : Type 0} (x : X) → Contains [] x → ⊥
none_in x h = absurd (omega (arith, h.1))

pub below_or_at : (n x : ℕ) → (x < n) ⊎ ((v : ℕ) × (x ≡ n + v))
below_or_at zero x = inr (x, omega arith)
below_or_at (suc n) zero = inl (omega arith)
below_or_at (suc n) (suc x) = ⊎_elim (λ h. inl (omega (arith, h))) (λ r. inr (r.0, (let e = r.1 in omega (arith, e)))) (below_or_at n x)

-- what stands in lists put together
pub get_front : {X : Type 0} (xs ys : List X) (i : ℕ) → i < length xs → slice_get (xs ++ ys) i ≡ slice_get xs i
get_front [] ys i h = absurd (omega (arith, h))
get_front (x ∷ xs) ys zero h = refl
get_front (x ∷ xs) ys (suc i) h = get_front xs ys i (omega (arith, h))

pub get_behind : {X : Type 0} (xs ys : List X) (i : ℕ) → slice_get (xs ++ ys) (length xs + i) ≡ slice_get ys i
get_behind [] ys i = let e : 0 + i ≡ i = omega arith in ap (slice_get ys) e
get_behind (x ∷ xs) ys i = let e : suc (length xs) + i ≡ suc (length xs + i) = omega arith in ap (slice_get (x ∷ (xs ++ ys))) e ∙ get_behind xs ys i

pub get_mapped : {X Y : Type 0} (f : X → Y) (xs : List X) (i : ℕ) (y : Y) → slice_get (map f xs) i ≡ Some y → (x : X) × (slice_get xs i ≡ Some x) × (y ≡ f x)
get_mapped f [] i y e = absurd (none-some y e)
get_mapped f (x ∷ xs) zero y e = (x, refl, sym (same_Some (f x) y e))
get_mapped f (x ∷ xs) (suc i) y e = get_mapped f xs i y e

pub mapped_get : {X Y : Type 0} (f : X → Y) (xs : List X) (i : ℕ) (x : X) → slice_get xs i ≡ Some x → slice_get (map f xs) i ≡ Some (f x)
mapped_get f [] i x e = absurd (none-some x e)
mapped_get f (y ∷ xs) zero x e = ap (λ z. Some (f z)) (same_Some y x e)
mapped_get f (y ∷ xs) (suc i) x e = mapped_get f xs i x e

-- of lists put together an entry stands in the first, or behind it
pub get_cases : {X : Type 0} (xs ys : List X) (i : ℕ) (x : X) → slice_get (xs ++ ys) i ≡ Some x → (slice_get xs i ≡ Some x) ⊎ ((v : ℕ) × (i ≡ length xs + v) × (slice_get ys v ≡ Some x))
get_cases xs ys i x e = ⊎_elim
    (λ h. inl (sym (get_front xs ys i h) ∙ e))
    (λ (v, q). inr (v, q, sym (ap (slice_get (xs ++ ys)) q ∙ get_behind xs ys v) ∙ e))
    (below_or_at (length xs) i)
