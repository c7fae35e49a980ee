-- Ranges of indices, one more at the end.
use Rattle.std.proofs.Common.{◌≡◌, ℕ, zero, suc, ◌+◌, ◌≤◌, Bool, true, false, [], ◌∷◌, ◌++◌, refl, ap, ◌∙◌, arith}
use Rattle.std.specs.Prelude.{if◌then◌else◌}
use Rattle.opt_tiny.specs.Meaning.{range, kept, one_unless}

range_suc : (s n : ℕ) → range s (suc n) ≡ range s n ++ (s + n) ∷ []
range_suc s zero = let e : s ≡ s + 0 = omega arith in ap (λ x. x ∷ []) e
range_suc s (suc n) = let e : suc s + n ≡ s + suc n = omega arith in ap (λ xs. s ∷ xs) (range_suc (suc s) n ∙ ap (λ x. range (suc s) n ++ x ∷ []) e)

pub range_end : (s n : ℕ) → range s (n + 1) ≡ range s n ++ (s + n) ∷ []
range_end s n = let e : n + 1 ≡ suc n = omega arith in ap (range s) e ∙ range_suc s n

kept_suc : (p : ℕ → Bool) (s n : ℕ) → kept p s (suc n) ≡ kept p s n + one_unless (p (s + n))
kept_suc p s zero = (let e : s ≡ s + 0 = omega arith in ap (λ x. if p x then 0 else suc 0) e) ∙ first (p (s + 0))
  where
    first : (b : Bool) → (if b then 0 else suc 0) ≡ 0 + one_unless b
    first true = refl
    first false = refl
kept_suc p s (suc n) =
    (λ i. if p s then kept_suc p (suc s) n i else suc (kept_suc p (suc s) n i))
    ∙ step (p s) (kept p (suc s) n) (one_unless (p (suc s + n)))
    ∙ (let e : suc s + n ≡ s + suc n = omega arith in ap (λ x. kept p s (suc n) + one_unless (p x)) e)
  where
    step : (b : Bool) (k m : ℕ) → (if b then k + m else suc (k + m)) ≡ (if b then k else suc k) + m
    step true k m = refl
    step false k m = omega arith

pub kept_end : (p : ℕ → Bool) (n : ℕ) → kept p 1 (n + 1) ≡ kept p 1 n + one_unless (p (n + 1))
kept_end p n = (let e : n + 1 ≡ suc n = omega arith in ap (kept p 1) e) ∙ kept_suc p 1 n ∙ (let e : 1 + n ≡ n + 1 = omega arith in ap (λ x. kept p 1 n + one_unless (p x)) e)

pub kept_most : (p : ℕ → Bool) (s n : ℕ) → kept p s n ≤ n
kept_most p s zero = omega arith
kept_most p s (suc n) = step (p s) (kept p (suc s) n) (kept_most p (suc s) n)
  where
    step : (b : Bool) (k : ℕ) → k ≤ n → (if b then k else suc k) ≤ suc n
    step true k h = omega arith
    step false k h = omega arith
