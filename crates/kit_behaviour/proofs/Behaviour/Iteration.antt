-- A set that only grows, within a finite list, is closed after some steps.
use Rattle.std.proofs.Common.{◌≡◌, ◌⊎◌, ⊎_elim, inl, inr, ℕ, zero, suc, ◌+◌, ◌<◌, ◌≤◌, Bool, true, false, List, [], ◌∷◌, length, refl, sym, ap, ◌∙◌, subst, arith}
use Rattle.std.specs.Prelude.{if◌then◌else◌}
use Rattle.kit_behaviour.specs.Scopes.{In}

module _ {X : Type 0} where
  abbrev count : (X → Bool) → List X → ℕ
  count r [] = 0
  count r (x ∷ xs) = if r x then suc (count r xs) else count r xs

  count_most : (r : X → Bool) (xs : List X) → count r xs ≤ length xs
  count_most r [] = omega arith
  count_most r (x ∷ xs) = by_test (r x) (count_most r xs)
    where
      by_test : (b : Bool) → count r xs ≤ length xs → (if b then suc (count r xs) else count r xs) ≤ suc (length xs)
      by_test true h = omega (arith, h)
      by_test false h = omega (arith, h)

  count_more : (r s : X → Bool) → ((x : X) → r x ≡ true → s x ≡ true) → (xs : List X) → count r xs ≤ count s xs
  count_more r s h [] = omega arith
  count_more r s h (x ∷ xs) = by_test (r x) refl (s x) refl (count_more r s h xs)
    where
      by_test : (a : Bool) → r x ≡ a → (b : Bool) → s x ≡ b → count r xs ≤ count s xs → (if r x then suc (count r xs) else count r xs) ≤ (if s x then suc (count s xs) else count s xs)
      by_test true e true g c =
          let p : (if r x then suc (count r xs) else count r xs) ≡ suc (count r xs) = ap (λ t. if t then suc (count r xs) else count r xs) e in
          let q : (if s x then suc (count s xs) else count s xs) ≡ suc (count s xs) = ap (λ t. if t then suc (count s xs) else count s xs) g in
          omega (arith, c, p, q)
      by_test true e false g c = let bad : true ≡ false = sym (h x e) ∙ g in absurd (cc bad)
      by_test false e true g c =
          let p : (if r x then suc (count r xs) else count r xs) ≡ count r xs = ap (λ t. if t then suc (count r xs) else count r xs) e in
          let q : (if s x then suc (count s xs) else count s xs) ≡ suc (count s xs) = ap (λ t. if t then suc (count s xs) else count s xs) g in
          omega (arith, c, p, q)
      by_test false e false g c =
          let p : (if r x then suc (count r xs) else count r xs) ≡ count r xs = ap (λ t. if t then suc (count r xs) else count r xs) e in
          let q : (if s x then suc (count s xs) else count s xs) ≡ count s xs = ap (λ t. if t then suc (count s xs) else count s xs) g in
          omega (arith, c, p, q)

  count_grows : (r s : X → Bool) → ((x : X) → r x ≡ true → s x ≡ true) → (x : X) (xs : List X) → In x xs → r x ≡ false → s x ≡ true → suc (count r xs) ≤ count s xs
  count_grows r s h x [] i e g = absurd i
  count_grows r s h x (y ∷ ys) i e g =
      ⊎_elim
      (λ z.
      let p : (if r y then suc (count r ys) else count r ys) ≡ count r ys = ap (λ t. if t then suc (count r ys) else count r ys) (ap r (sym z) ∙ e) in
      let q : (if s y then suc (count s ys) else count s ys) ≡ suc (count s ys) = ap (λ t. if t then suc (count s ys) else count s ys) (ap s (sym z) ∙ g) in
      omega (arith, p, q, count_more r s h ys))
      (λ k. by_test (r y) refl (s y) refl (count_grows r s h x ys k e g))
      i
    where
      by_test : (a : Bool) → r y ≡ a → (b : Bool) → s y ≡ b → suc (count r ys) ≤ count s ys → suc (if r y then suc (count r ys) else count r ys) ≤ (if s y then suc (count s ys) else count s ys)
      by_test true ra true sb c =
          let p : (if r y then suc (count r ys) else count r ys) ≡ suc (count r ys) = ap (λ t. if t then suc (count r ys) else count r ys) ra in
          let q : (if s y then suc (count s ys) else count s ys) ≡ suc (count s ys) = ap (λ t. if t then suc (count s ys) else count s ys) sb in
          omega (arith, c, p, q)
      by_test true ra false sb c = let bad : true ≡ false = sym (h y ra) ∙ sb in absurd (cc bad)
      by_test false ra true sb c =
          let p : (if r y then suc (count r ys) else count r ys) ≡ count r ys = ap (λ t. if t then suc (count r ys) else count r ys) ra in
          let q : (if s y then suc (count s ys) else count s ys) ≡ suc (count s ys) = ap (λ t. if t then suc (count s ys) else count s ys) sb in
          omega (arith, c, p, q)
      by_test false ra false sb c =
          let p : (if r y then suc (count r ys) else count r ys) ≡ count r ys = ap (λ t. if t then suc (count r ys) else count r ys) ra in
          let q : (if s y then suc (count s ys) else count s ys) ≡ count s ys = ap (λ t. if t then suc (count s ys) else count s ys) sb in
          omega (arith, c, p, q)

  module _ (univ : List X) (step : (X → Bool) → X → Bool) (grows : (r : X → Bool) (x : X) → r x ≡ true → step r x ≡ true) (within : (r : X → Bool) (x : X) → step r x ≡ true → r x ≡ false → In x univ) (first : X → Bool) where
    -- the set after n steps
    abbrev pub after_steps : ℕ → X → Bool
    after_steps zero = first
    after_steps (suc n) = step (after_steps n)

    abbrev pub IsStill : (X → Bool) → Type 0
    IsStill r = (x : X) → step r x ≡ true → r x ≡ true

    abbrev Fresh : (X → Bool) → X → Type 0
    Fresh r x = (step r x ≡ true) × (r x ≡ false)

    search : (r : X → Bool) (xs : List X) → ((x : X) → In x xs → Fresh r x → ⊥) ⊎ ((x : X) × In x xs × Fresh r x)
    search r [] = inl (λ x i h. i)
    search r (x ∷ xs) = by_test (step r x) refl (r x) refl (search r xs)
      where
        none : (Fresh r x → ⊥) → ((y : X) → In y xs → Fresh r y → ⊥) → (y : X) → In y (x ∷ xs) → Fresh r y → ⊥
        none a h y i g = ⊎_elim (λ e. a (subst (Fresh r) e g)) (λ k. h y k g) i

        on : (Fresh r x → ⊥) → ((y : X) → In y xs → Fresh r y → ⊥) ⊎ ((y : X) × In y xs × Fresh r y) → ((y : X) → In y (x ∷ xs) → Fresh r y → ⊥) ⊎ ((y : X) × In y (x ∷ xs) × Fresh r y)
        on a h = ⊎_elim (λ n. inl (none a n)) (λ g. inr (g.0, inr g.1, g.2)) h

        by_test : (a : Bool) → step r x ≡ a → (b : Bool) → r x ≡ b → ((y : X) → In y xs → Fresh r y → ⊥) ⊎ ((y : X) × In y xs × Fresh r y) → ((y : X) → In y (x ∷ xs) → Fresh r y → ⊥) ⊎ ((y : X) × In y (x ∷ xs) × Fresh r y)
        by_test true e false g h = inr (x, inl refl, (e, g))
        by_test true e true g h = on (λ z. let bad : true ≡ false = sym g ∙ z.1 in cc bad) h
        by_test false e b g h = on (λ z. let bad : true ≡ false = sym z.0 ∙ e in cc bad) h

    still_or : (r : X → Bool) → IsStill r ⊎ ((x : X) × In x univ × Fresh r x)
    still_or r = ⊎_elim (λ n. inl (λ x e. by_test x e (r x) refl n)) (λ h. inr h) (search r univ)
      where
        by_test : (x : X) → step r x ≡ true → (b : Bool) → r x ≡ b → ((x : X) → In x univ → Fresh r x → ⊥) → r x ≡ true
        by_test x e true g n = g
        by_test x e false g n = absurd (n x (within r x e g) (e, g))

    settles : (m n : ℕ) → length univ < m + count (after_steps n) univ → (k : ℕ) × IsStill (after_steps k)
    settles zero n l = absurd (omega (arith, l, count_most (after_steps n) univ))
    settles (suc m) n l =
        ⊎_elim
        (λ s. (n, s))
        (λ h.
        let c = count_grows (after_steps n) (after_steps (suc n)) (grows (after_steps n)) h.0 univ h.1 h.2.1 h.2.0 in
        settles m (suc n) (omega (arith, l, c)))
        (still_or (after_steps n))

    pub still_after : (k : ℕ) × IsStill (after_steps k)
    still_after = settles (suc (length univ)) 0 (omega arith)
