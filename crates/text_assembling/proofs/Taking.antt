-- Lists that lose their ends.
use Rattle.std.proofs.Common.{◌≡◌, ◌∙◌, ℕ, zero, suc, ◌+◌, ◌-◌, ◌≤◌, List, [], ◌∷◌, ◌++◌, length, take, refl, ap, arith, length-append}

take_behind : {X : Type 0} (xs zs : List X) (m : ℕ) → take (length xs + m) (xs ++ zs) ≡ xs ++ take m zs
take_behind [] zs m = let e : 0 + m ≡ m = omega arith in ap (λ (n : ℕ). take n zs) e
take_behind (x ∷ xs) zs m =
    let e : suc (length xs) + m ≡ suc (length xs + m) = omega arith in
    ap (λ (n : ℕ). take n (x ∷ (xs ++ zs))) e ∙ ap (λ (ys : List _). x ∷ ys) (take_behind xs zs m)

take_so_many : {X : Type 0} (zs : List X) (m : ℕ) → m ≤ length zs → length (take m zs) ≡ m
take_so_many [] zero le = refl
take_so_many [] (suc m) le = absurd (omega (arith, le))
take_so_many (z ∷ zs) zero le = refl
take_so_many (z ∷ zs) (suc m) le = ap suc (take_so_many zs m (omega (arith, le)))

-- so many are taken off the end behind the first list, and so many are left there
pub taken_off : {X : Type 0} (xs zs : List X) (n k m : ℕ) → length zs ≡ k + m → n ≡ length (xs ++ zs) - k → (ws : List X) × (take n (xs ++ zs) ≡ xs ++ ws) × (length ws ≡ m)
taken_off xs zs n k m many is =
    let e : n ≡ length xs + m = (let l = length-append xs zs in omega (arith, is, many, l)) in
    (take m zs, ap (λ (j : ℕ). take j (xs ++ zs)) e ∙ take_behind xs zs m, take_so_many zs m (omega (arith, many)))

pub none_left : {X : Type 0} (xs zs : List X) → length zs ≡ 0 → xs ++ zs ≡ xs
none_left [] [] e = refl
none_left [] (z ∷ zs) e = absurd (omega (arith, e))
none_left (x ∷ xs) zs e = ap (λ (ys : List _). x ∷ ys) (none_left xs zs e)
