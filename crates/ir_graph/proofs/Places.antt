-- Places in lists.
use Rattle.std.proofs.Common.{◌≡◌, ◌⊎◌, inl, inr, ⊎_elim, ℕ, zero, suc, ◌-◌, ◌<◌, List, [], ◌∷◌, ◌++◌, Some, length, get_or, reverse, refl, sym, ap, ◌∙◌, subst, arith}
use Rattle.std.specs.Prelude.{Contains, slice_get}
use Rattle.std.proofs.lemmas.List.{length-reverse, get_or-reverse}
use Rattle.std.proofs.lemmas.Option.{slice_get-get_or, slice_get_within, get_or_from_slice_get, none-some, same_Some}
use Rattle.ir_graph.specs.Graphs.{AreDistinctNodes}

module _ {X : Type 0} where
  -- where a member of a list stands
  pub place_of : (xs : List X) (x : X) → Contains xs x → (i : ℕ) × (slice_get xs i ≡ Some x)
  place_of xs x c = (c.0, slice_get-get_or xs c.0 x c.1 ∙ ap Some c.2)

  pub stands_in : (xs : List X) (i : ℕ) (x : X) → slice_get xs i ≡ Some x → Contains xs x
  stands_in xs i x e = (i, slice_get_within xs i x e, get_or_from_slice_get xs i x x e)

  -- places in the front of a longer list
  pub get_front : (xs ys : List X) (i : ℕ) (x : X) → slice_get xs i ≡ Some x → slice_get (xs ++ ys) i ≡ Some x
  get_front [] ys i x e = absurd (none-some x e)
  get_front (y ∷ xs) ys zero x e = e
  get_front (y ∷ xs) ys (suc i) x e = get_front xs ys i x e

  pub get_back : (xs ys : List X) (i : ℕ) (x : X) → i < length xs → slice_get (xs ++ ys) i ≡ Some x → slice_get xs i ≡ Some x
  get_back [] ys i x h e = absurd (omega (arith, h))
  get_back (y ∷ xs) ys zero x h e = e
  get_back (y ∷ xs) ys (suc i) x h e = get_back xs ys i x (omega (arith, h)) e

  -- the place behind the front
  pub get_mid : (xs ys : List X) (x : X) → slice_get (xs ++ x ∷ ys) (length xs) ≡ Some x
  get_mid [] ys x = refl
  get_mid (y ∷ xs) ys x = get_mid xs ys x

  -- two fronts of one list that are as long as each other
  pub same_front : (xs ys us vs : List X) → length xs ≡ length ys → xs ++ us ≡ ys ++ vs → xs ≡ ys
  same_front [] [] us vs h e = refl
  same_front [] (y ∷ ys) us vs h e = absurd (omega (arith, h))
  same_front (x ∷ xs) [] us vs h e = absurd (omega (arith, h))
  same_front (x ∷ xs) (y ∷ ys) us vs h e =
      let a : x ≡ y = cc in
      let b : xs ++ us ≡ ys ++ vs = cc in ap (λ z. z ∷ xs) a ∙ ap (λ zs. y ∷ zs) (same_front xs ys us vs (omega (arith, h)) b)

  pub push_cases : (xs : List X) (y x : X) (i : ℕ) → slice_get (xs ++ y ∷ []) i ≡ Some x → (slice_get xs i ≡ Some x) ⊎ ((i ≡ length xs) × (y ≡ x))
  push_cases [] y x zero e = inr (refl, same_Some y x e)
  push_cases [] y x (suc i) e = absurd (none-some x e)
  push_cases (z ∷ xs) y x zero e = inl e
  push_cases (z ∷ xs) y x (suc i) e = ⊎_elim (λ a. inl a) (λ b. inr (ap suc b.0, b.1)) (push_cases xs y x i e)

  -- one more that is not there yet
  pub distinct_push : (xs : List X) (y : X) → AreDistinctNodes xs → (Contains xs y → ⊥) → AreDistinctNodes (xs ++ y ∷ [])
  distinct_push xs y d f i j x a b = ⊎_elim
      (λ p. ⊎_elim (λ q. d i j x p q) (λ q. absurd (f (subst (Contains xs) (sym q.1) (stands_in xs i x p)))) (push_cases xs y x j b))
      (λ p. ⊎_elim (λ q. absurd (f (subst (Contains xs) (sym p.1) (stands_in xs j x q)))) (λ q. p.0 ∙ sym q.0) (push_cases xs y x j b))
      (push_cases xs y x i a)

  pub distinct_none : AreDistinctNodes {X = X} []
  distinct_none i j x a b = absurd (none-some x a)

  -- the place in the reverse of a list
  pub reverse_place : (xs : List X) (p : ℕ) (x : X) → slice_get xs p ≡ Some x → slice_get (reverse xs) (length xs - 1 - p) ≡ Some x
  reverse_place xs p x e =
      let w = slice_get_within xs p x e in
      let l = length-reverse xs in
      let k : length xs - 1 - p < length xs = omega (arith, w) in
      slice_get-get_or (reverse xs) (length xs - 1 - p) x (omega (arith, w, l))
      ∙ ap Some (get_or-reverse xs (length xs - 1 - p) x k ∙ ap (λ j. get_or xs j x) (let y : length xs - 1 - (length xs - 1 - p) ≡ p = omega (arith, w) in y) ∙ get_or_from_slice_get xs p x x e)
