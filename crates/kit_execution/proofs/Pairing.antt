-- A numbering of texts, by pairs of numbers.
use Rattle.std.proofs.Common.{◌≡◌, ℕ, zero, suc, ◌+◌, ◌≤◌, List, [], ◌∷◌, refl, ap, arith}
use Rattle.kit_execution.specs.Numberings.{NumbersTextsApart}

-- the number of a pair
abbrev pair : ℕ → ℕ → ℕ
pair zero b = b + b + 1
pair (suc a) b = pair a b + pair a b

pair_some : (a b : ℕ) → 1 ≤ pair a b
pair_some zero b = omega arith
pair_some (suc a) b = omega (arith, pair_some a b)

pair_first : (a b c d : ℕ) → pair a b ≡ pair c d → a ≡ c
pair_first zero b zero d e = refl
pair_first zero b (suc c) d e = absurd (omega (arith, e))
pair_first (suc a) b zero d e = absurd (omega (arith, e))
pair_first (suc a) b (suc c) d e = ap suc (pair_first a b c d (omega (arith, e)))

pair_second : (a b c d : ℕ) → pair a b ≡ pair c d → b ≡ d
pair_second zero b zero d e = omega (arith, e)
pair_second zero b (suc c) d e = absurd (omega (arith, e))
pair_second (suc a) b zero d e = absurd (omega (arith, e))
pair_second (suc a) b (suc c) d e = pair_second a b c d (omega (arith, e))

-- the number of a text
abbrev pub text_number : List ℕ → ℕ
text_number [] = 0
text_number (x ∷ xs) = pair x (text_number xs)

pub numbers_apart : NumbersTextsApart text_number
numbers_apart [] [] e = refl
numbers_apart [] (y ∷ ys) e = absurd (omega (arith, e, pair_some y (text_number ys)))
numbers_apart (x ∷ xs) [] e = absurd (omega (arith, e, pair_some x (text_number xs)))
numbers_apart (x ∷ xs) (y ∷ ys) e =
    let first = pair_first x (text_number xs) y (text_number ys) e in
    let rest = numbers_apart xs ys (pair_second x (text_number xs) y (text_number ys) e) in
    λ i. first i ∷ rest i
