-- A text before a code and digits is found again.
use Rattle.std.proofs.Common.{◌≡◌, ℕ, ◌<◌, ◌≤◌, ◌+◌, ◌%◌, ◌^◌, List, [], ◌∷◌, ◌++◌, refl, sym, subst, arith, decimal}
use Rattle.std.proofs.Math.Nat.{mod-lt}
use Rattle.std.proofs.lemmas.Fmt.{decimal_by_steps_wide}

-- each code is below that of a letter or of `_`, as those of digits are
abbrev pub AreLow : List ℕ → Type 0
AreLow [] = Unit {0}
AreLow (c ∷ cs) = (c < 58) × AreLow cs

low_append : (ds es : List ℕ) → AreLow ds → AreLow es → AreLow (ds ++ es)
low_append [] es low more = more
low_append (d ∷ ds) es low more = (low.0, low_append ds es low.1 more)

one_low : (d : ℕ) → d < 10 → AreLow ((48 + d) ∷ [])
one_low d lt = (omega (arith, lt), tt)

-- so the digits of a number are
pub decimal_low : (n : ℕ) → n < 10 ^ 64 → AreLow (decimal n)
decimal_low = decimal_by_steps_wide (λ m ds. AreLow ds) one_low (λ m ds le low. low_append ds ((48 + m % 10) ∷ []) low (one_low (m % 10) (mod-lt m (omega arith))))

-- what is low has no letter in it
low_middle : (xs ds : List ℕ) (c : ℕ) → AreLow (xs ++ c ∷ ds) → c < 58
low_middle [] ds c low = low.0
low_middle (x ∷ xs) ds c low = low_middle xs ds c low.1

-- a text is split in one way at the last letter before digits
pub split_once : (c : ℕ) → 58 ≤ c → (xs ys ds es : List ℕ) → AreLow ds → AreLow es → xs ++ c ∷ ds ≡ ys ++ c ∷ es → (xs ≡ ys) × (ds ≡ es)
split_once c high [] [] ds es ds_low es_low same = let rest : ds ≡ es = cc in (refl, rest)
split_once c high [] (y ∷ ys) ds es ds_low es_low same = let rest : ds ≡ ys ++ c ∷ es = cc in let low : c < 58 = low_middle ys es c (subst AreLow rest ds_low) in absurd (omega arith)
split_once c high (x ∷ xs) [] ds es ds_low es_low same = let rest : xs ++ c ∷ ds ≡ es = cc in let low : c < 58 = low_middle xs ds c (subst AreLow (sym rest) es_low) in absurd (omega arith)
split_once c high (x ∷ xs) (y ∷ ys) ds es ds_low es_low same =
    let first : x ≡ y = cc in
    let rest : xs ++ c ∷ ds ≡ ys ++ c ∷ es = cc in
    let split : (xs ≡ ys) × (ds ≡ es) = split_once c high xs ys ds es ds_low es_low rest in
    (rw (first, split.0) refl, split.1)

never_empty : (xs ds : List ℕ) (c : ℕ) → [] ≡ xs ++ c ∷ ds → ⊥
never_empty [] ds c same = cc
never_empty (x ∷ xs) ds c same = cc

-- what ends in one letter, or in none, doesn't end in another one with digits
pub ends_apart : (c k : ℕ) → 58 ≤ c → (c ≡ k → ⊥) → (xs ys ds : List ℕ) → AreLow ds → xs ++ c ∷ [] ≡ ys ++ k ∷ ds → ⊥
ends_apart c k high ne [] [] ds low same = let is : c ≡ k = cc in ne is
ends_apart c k high ne [] (y ∷ ys) ds low same = let rest : [] ≡ ys ++ k ∷ ds = cc in never_empty ys ds k rest
ends_apart c k high ne (x ∷ xs) [] ds low same = let rest : ds ≡ xs ++ c ∷ [] = cc in let at : c < 58 = low_middle xs [] c (subst AreLow rest low) in absurd (omega arith)
ends_apart c k high ne (x ∷ xs) (y ∷ ys) ds low same = let rest : xs ++ c ∷ [] ≡ ys ++ k ∷ ds = cc in ends_apart c k high ne xs ys ds low rest

pub empty_apart : (xs ds : List ℕ) (c : ℕ) → [] ≡ xs ++ c ∷ ds → ⊥
empty_apart = never_empty
