-- Numbers below a bound, and members by a test.
use Rattle.std.proofs.Common.{◌≡◌, ⊎_elim, inl, inr, ℕ, zero, suc, ◌<◌, Bool, true, false, List, [], ◌∷◌, refl, sym, ap, ◌∙◌, arith}
use Rattle.std.specs.Prelude.{if◌then◌else◌, nat_eq}
use Rattle.std.proofs.lemmas.Bool.{eqb-true, eq-eqb}
use Rattle.kit_behaviour.specs.Scopes.{In, is_in}
use Rattle.kit_behaviour.proofs.Behaviour.FrameLemmas.{IsSameness}

pub below_other : (x y : ℕ) → x < suc y → (x ≡ y → ⊥) → x < y
below_other zero zero l ne = absurd (ne refl)
below_other zero (suc y) l ne = omega arith
below_other (suc x) zero l ne = absurd (omega (arith, l))
below_other (suc x) (suc y) l ne = let h = below_other x y (omega (arith, l)) (λ q. ne (ap suc q)) in omega (arith, h)

-- the numbers below n
pub upto : ℕ → List ℕ
upto zero = []
upto (suc n) = n ∷ upto n

pub in_upto : (n t : ℕ) → t < n → In t (upto n)
unfolding upto
in_upto zero t l = absurd (omega (arith, l))
in_upto (suc n) t l = by_test (nat_eq t n) refl (λ w. in_upto n t w)
  where
    by_test : (q : Bool) → nat_eq t n ≡ q → (t < n → In t (upto n)) → In t (n ∷ upto n)
    by_test true g ih = inl (eqb-true t n g)
    by_test false g ih = inr (ih (below_other t n l (λ z. let bad : true ≡ false = sym (eq-eqb t n z) ∙ g in cc bad)))

module _ {V : Type 0} (same : V → V → Bool) (law : IsSameness same) where
  pub is_in_in : (v : V) (xs : List V) → is_in same v xs ≡ true → In v xs
  is_in_in v [] e = absurd (cc e)
  is_in_in v (x ∷ xs) e = by_test (same v x) refl (is_in_in v xs)
    where
      by_test : (b : Bool) → same v x ≡ b → (is_in same v xs ≡ true → In v xs) → In v (x ∷ xs)
      by_test true h ih = inl (law.true_same v x h)
      by_test false h ih = inr (ih (sym (ap (λ b. if b then true else is_in same v xs) h) ∙ e))

  pub in_is : (v : V) (xs : List V) → In v xs → is_in same v xs ≡ true
  in_is v [] i = absurd i
  in_is v (x ∷ xs) i =
      ⊎_elim
      (λ e. ap (λ b. if b then true else is_in same v xs) (ap (same v) (sym e) ∙ law.same_true v))
      (λ j. by_test (same v x) (in_is v xs j)) i
    where
      by_test : (b : Bool) → is_in same v xs ≡ true → (if b then true else is_in same v xs) ≡ true
      by_test true h = refl
      by_test false h = h
