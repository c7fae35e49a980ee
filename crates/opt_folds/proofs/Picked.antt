-- Lists of what is picked, filled one by one; and what an edge tells that is picked.
use Rattle.std.proofs.Common.{◌≡◌, ℕ, zero, suc, ◌+◌, ◌≤◌, Bool, true, false, ◌&&◌, not, List, [], ◌∷◌, ◌++◌, length, take, Option, Some, None, IsSome, is_some, slice_get, refl, sym, ap, ◌∙◌, subst, add-one, arith}
use Rattle.std.specs.Prelude.{if◌then◌else◌}
use Rattle.ir_trees.specs.Stands.{in_program}
use Rattle.opt_trees.specs.Dialect.{Dialect}
use Rattle.opt_folds.specs.Branches.{edge_by, picked}

-- the element at an index, where it is picked
abbrev one_if : {X : Type 0} → Bool → X → List X
one_if b x = if b then x ∷ [] else []

picked_next : {X : Type 0} (p : ℕ → Bool) (xs : List X) (n : ℕ) (x : X) → slice_get xs n ≡ Some x
    → picked p (take (n + 1) xs) ≡ picked p (take n xs) ++ one_if (p n) x
picked_next {X} p xs n x h = rw (add-one n) (by_suc p xs n h) where
  by_suc : (q : ℕ → Bool) (ys : List X) (k : ℕ) → slice_get ys k ≡ Some x
      → picked q (take (suc k) ys) ≡ picked q (take k ys) ++ one_if (q k) x
  by_suc q [] k e = cc
  by_suc q (y ∷ ys) zero e = let s : y ≡ x = cc in ap (λ z. one_if (q 0) z) s
  by_suc q (y ∷ ys) (suc k) e = by_case (q 0) (by_suc (λ i. q (suc i)) ys k e) where
    by_case : (b : Bool) → picked (λ i. q (suc i)) (take (suc k) ys) ≡ picked (λ i. q (suc i)) (take k ys) ++ one_if (q (suc k)) x
        → (if b then y ∷ picked (λ i. q (suc i)) (take (suc k) ys) else picked (λ i. q (suc i)) (take (suc k) ys))
        ≡ (if b then y ∷ picked (λ i. q (suc i)) (take k ys) else picked (λ i. q (suc i)) (take k ys)) ++ one_if (q (suc k)) x
    by_case true ih = ap (λ zs. y ∷ zs) ih
    by_case false ih = ih

nothing_behind : {X : Type 0} (xs : List X) → xs ++ [] ≡ xs
nothing_behind [] = refl
nothing_behind (x ∷ xs) = ap (λ ys. x ∷ ys) (nothing_behind xs)

take_all : {X : Type 0} (xs : List X) (i : ℕ) → length xs ≤ i → take i xs ≡ xs
take_all [] zero h = refl
take_all [] (suc i) h = refl
take_all (x ∷ xs) zero h = absurd (omega (arith, h))
take_all (x ∷ xs) (suc i) h = ap (λ ys. x ∷ ys) (take_all xs i (omega (arith, h)))

-- one that is picked comes behind those before it
pub picked_more : {X : Type 0} (p : ℕ → Bool) (xs row now : List X) (n : ℕ) (x : X) → slice_get xs n ≡ Some x → p n ≡ true
    → now ≡ row ++ x ∷ [] → row ≡ picked p (take n xs) → now ≡ picked p (take (n + 1) xs)
picked_more p xs row now n x at goes pushed is =
    pushed ∙ ap (λ l. l ++ x ∷ []) is ∙ ap (λ b. picked p (take n xs) ++ one_if b x) (sym goes) ∙ sym (picked_next p xs n x at)

-- one that isn't picked changes nothing
pub picked_less : {X : Type 0} (p : ℕ → Bool) (xs row : List X) (n : ℕ) (x : X) → slice_get xs n ≡ Some x → p n ≡ false
    → row ≡ picked p (take n xs) → row ≡ picked p (take (n + 1) xs)
picked_less p xs row n x at stays is =
    is ∙ sym (nothing_behind (picked p (take n xs))) ∙ ap (λ b. picked p (take n xs) ++ one_if b x) (sym stays) ∙ sym (picked_next p xs n x at)

pub picked_all : {X : Type 0} (p : ℕ → Bool) (xs row : List X) (n : ℕ) → length xs ≤ n → row ≡ picked p (take n xs) → row ≡ picked p xs
picked_all p xs row n le is = is ∙ ap (picked p) (take_all xs n le)

-- an edge is picked only where the dialect has an unconditional branch
pub has_plain : {O B A : Type 0} (d : Dialect (in_program O B) A) (payload : Option O) (known : List (Option A)) (edge : ℕ)
    → edge_by d payload known ≡ Some edge → IsSome d.plain
has_plain d None known edge e = cc
has_plain d (Some payload) known edge e = by_tests (d.is_branch payload) (not (d.is_plain payload)) (is_some d.plain) refl e where
  by_tests : (a b c : Bool) → is_some d.plain ≡ c → (if a && (b && c) then d.edge payload known else None) ≡ Some edge → IsSome d.plain
  by_tests true true true is h = is
  by_tests true true false is h = cc
  by_tests true false c is h = cc
  by_tests false b c is h = cc
