-- A function that is its own inverse is an equivalence: what holds of the identity, whatever the type of its values,
-- holds of it, by univalence.
use Rattle.std.proofs.Common.{◌≡◌}

module _ {X : Type 0} (f : X → X) (twice : (x : X) → f (f x) ≡ x) where
  -- what f takes to b
  abbrev Over : X → Type 0
  Over b = (a : X) × (f a ≡ b)

  -- from f of what f takes to b to that itself
  square : (b : X) (p : Over b) → (j k : 𝕀) → X
  square b p = λ j k. hcom k j (twice p.0 k) [ k = 0 ↦ j. f (p.1 j) | k = 1 ↦ _. p.0 ]

  line : (b : X) (p q : Over b) → (i k : 𝕀) → X
  unfolding square
  line b p q = λ i k. hcom 0 k (f b) [ i = 0 ↦ k. square b p 1 k | i = 1 ↦ k. square b q 1 k ]

  one_over : (b : X) (p q : Over b) → p ≡ q
  unfolding line
  one_over b p q = λ i.
      let along : 𝕀 → X = λ j. hcom j 0 (twice (line b p q i 1) j) [
        | j = 1 ↦ k. line b p q i k
        | i = 0 ↦ k. square b p j k
        | i = 1 ↦ k. square b q j k
      ]
      in (
        line b p q i 1,
        λ j. hcom 0 1 (f (along j)) [
          | i = 0 ↦ m. twice (p.1 j) m
          | i = 1 ↦ m. twice (q.1 j) m
          | j = 0 ↦ m. twice (f (line b p q i 1)) m
          | j = 1 ↦ m. twice b m
        ],
      )

  -- f as an equivalence of X with itself
  abbrev as_equivalence : (g : X → X) × ((b : X) → (c : (a : X) × (g a ≡ b)) × ((x : (a : X) × (g a ≡ b)) → x ≡ c))
  as_equivalence = (f, λ b. ((f b, twice b), λ p. one_over b p (f b, twice b)))

  -- what can be said of functions from X to any type, and holds of the identity of X, holds of f
  pub as_identity : (P : (Y : Type 0) → (X → Y) → Type 0) → P X (λ x. x) → P X f
  as_identity P same = coe 0 1 (i. P (V i X X as_equivalence) (λ x. vin i x (f x))) same
