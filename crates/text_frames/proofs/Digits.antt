-- The numbers that digits write.
use Rattle.std.proofs.Common.{◌≡◌, ℕ, ◌+◌, ◌*◌, ◌-◌, ◌≤◌, ◌<◌, List, [], ◌∷◌, length, drop, get_or, ap, ◌∙◌, arith}
use Rattle.std.proofs.lemmas.List.{drop_more}
use Rattle.ir_forest.specs.Meaning.{digits_from}

-- more digits make a number no smaller
pub digits_grow : (cs : List ℕ) (value : ℕ) → value ≤ digits_from value cs
digits_grow [] value = omega arith
digits_grow (c ∷ cs) value = let h : 10 * value + (c - 48) ≤ digits_from (10 * value + (c - 48)) cs = digits_grow cs (10 * value + (c - 48)) in omega arith

-- one digit more is read
pub digits_next : (cs : List ℕ) (i d c value : ℕ) → i < length cs → get_or cs i d ≡ c → digits_from value (drop i cs) ≡ digits_from (10 * value + (c - 48)) (drop (i + 1) cs)
digits_next cs i d c value lt e =
    let s : drop i cs ≡ c ∷ drop (i + 1) cs = drop_more cs i d lt ∙ ap (λ (x : ℕ). x ∷ drop (i + 1) cs) e in
    ap (λ (xs : List ℕ). digits_from value xs) s
