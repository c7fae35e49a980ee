-- Members of lists, one after the other and by index.
use Rattle.std.proofs.Common.{◌≡◌, ◌⊎◌, inl, inr, ⊎_elim, ℕ, zero, suc, List, [], ◌∷◌, ◌++◌, map, Some, slice_get, refl, sym, ap, subst}

-- x is one of the list
abbrev pub Has : {X : Type 0} → X → List X → Type 0
Has x [] = ⊥
Has x (y ∷ ys) = (x ≡ y) ⊎ Has x ys

-- none comes twice
abbrev pub Once : {X : Type 0} → List X → Type 0
Once [] = Unit {0}
Once (x ∷ xs) = (Has x xs → ⊥) × Once xs

module _ {X : Type 0} where
  pub at_has : (xs : List X) (k : ℕ) (x : X) → slice_get xs k ≡ Some x → Has x xs
  at_has [] k x h = cc
  at_has (y ∷ ys) zero x h = let s : Some y ≡ Some x = h in let q : x ≡ y = cc in inl q
  at_has (y ∷ ys) (suc k) x h = inr (at_has ys k x h)

  pub has_at : (xs : List X) (x : X) → Has x xs → (k : ℕ) × (slice_get xs k ≡ Some x)
  has_at [] x h = absurd h
  has_at (y ∷ ys) x h = ⊎_elim (λ s. (zero, ap Some (sym s))) (λ r. let g = has_at ys x r in (suc g.0, g.1)) h

  pub once_of : (xs : List X) → ((j k : ℕ) (x : X) → slice_get xs j ≡ Some x → slice_get xs k ≡ Some x → j ≡ k) → Once xs
  once_of [] h = tt
  once_of (x ∷ xs) h = (
    λ has. let g = has_at xs x has in let e : zero ≡ suc g.0 = h zero (suc g.0) x refl g.1 in cc,
    once_of xs (λ j k y a b. let e : suc j ≡ suc k = h (suc j) (suc k) y a b in cc),
  )

  pub once_at : (xs : List X) → Once xs → (j k : ℕ) (x : X) → slice_get xs j ≡ Some x → slice_get xs k ≡ Some x → j ≡ k
  once_at [] once j k x a b = cc
  once_at (y ∷ ys) once zero zero x a b = refl
  once_at (y ∷ ys) once zero (suc k) x a b = let s : Some y ≡ Some x = a in let q : x ≡ y = cc in absurd (once.0 (subst (λ z. Has z ys) q (at_has ys k x b)))
  once_at (y ∷ ys) once (suc j) zero x a b = let s : Some y ≡ Some x = b in let q : x ≡ y = cc in absurd (once.0 (subst (λ z. Has z ys) q (at_has ys j x a)))
  once_at (y ∷ ys) once (suc j) (suc k) x a b = ap suc (once_at ys once.1 j k x a b)

  pub has_front : (xs ys : List X) (x : X) → Has x xs → Has x (xs ++ ys)
  has_front [] ys x h = absurd h
  has_front (y ∷ xs) ys x h = ⊎_elim (λ s. inl s) (λ r. inr (has_front xs ys x r)) h

  pub has_back : (xs ys : List X) (x : X) → Has x ys → Has x (xs ++ ys)
  has_back [] ys x h = h
  has_back (y ∷ xs) ys x h = inr (has_back xs ys x h)

  pub has_either : (xs ys : List X) (x : X) → Has x (xs ++ ys) → Has x xs ⊎ Has x ys
  has_either [] ys x h = inr h
  has_either (y ∷ xs) ys x h = ⊎_elim (λ s. inl (inl s)) (λ r. ⊎_elim (λ a. inl (inr a)) (λ b. inr b) (has_either xs ys x r)) h

-- a member of what a map makes is made of a member
pub has_made : {X Y : Type 0} (f : X → Y) (xs : List X) (y : Y) → Has y (map f xs) → (x : X) × Has x xs × (y ≡ f x)
has_made f [] y h = absurd h
has_made f (x ∷ xs) y h = ⊎_elim (λ s. (x, inl refl, s)) (λ r. let g = has_made f xs y r in (g.0, inr g.1, g.2)) h

pub has_map : {X Y : Type 0} (f : X → Y) (xs : List X) (x : X) → Has x xs → Has (f x) (map f xs)
has_map f [] x h = absurd h
has_map f (y ∷ xs) x h = ⊎_elim (λ s. inl (ap f s)) (λ r. inr (has_map f xs x r)) h
