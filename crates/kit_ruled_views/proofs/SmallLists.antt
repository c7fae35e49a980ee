-- Lists of few members, and lists in parts.
use Rattle.std.proofs.Common.{◌≡◌, inl, inr, ⊎_elim, ℕ, zero, suc, ◌+◌, List, [], ◌∷◌, ◌++◌, map, take, drop, length}
use Rattle.std.proofs.Common.{Some, slice_get}
use Rattle.std.proofs.Common.{refl, sym, ap, ◌∙◌, arith}
use Rattle.opt_trees.specs.Occurrences.{Has}
use Rattle.std.proofs.lemmas.List.{append-nil, length-map}

pub none_of : {X : Type 0} (xs : List X) → length xs ≡ 0 → xs ≡ []
none_of [] h = refl
none_of (x ∷ xs) h = absurd (omega (arith, h))

pub one_of : {X : Type 0} (xs : List X) → length xs ≡ 1 → (x : X) × (xs ≡ x ∷ [])
one_of [] h = absurd (omega (arith, h))
one_of (x ∷ xs) h = (x, ap (λ l. x ∷ l) (none_of xs (omega (arith, h))))

pub two_of : {X : Type 0} (xs : List X) → length xs ≡ 2 → (x y : X) × (xs ≡ x ∷ y ∷ [])
two_of [] h = absurd (omega (arith, h))
two_of (x ∷ xs) h = let r = one_of xs (omega (arith, h)) in (x, r.0, ap (λ l. x ∷ l) r.1)

pub some_of : {X : Type 0} (xs : List X) (n : ℕ) → length xs ≡ suc n → (x : X) × (ys : List X) × (xs ≡ x ∷ ys)
some_of [] n h = absurd (omega (arith, h))
some_of (x ∷ xs) n h = (x, xs, refl)

take_whole : {X : Type 0} (n : ℕ) (xs : List X) → length xs ≡ n → take n xs ≡ xs
take_whole zero [] h = refl
take_whole zero (x ∷ xs) h = absurd (omega (arith, h))
take_whole (suc n) [] h = absurd (omega (arith, h))
take_whole (suc n) (x ∷ xs) h = ap (λ l. x ∷ l) (take_whole n xs (omega (arith, h)))

-- a list is its first members and as many more as there are
pub in_two : {X : Type 0} (n m : ℕ) (xs : List X) → length xs ≡ n + m → take n xs ++ (take m (drop n xs) ++ []) ≡ xs
in_two zero m xs h = append-nil (take m xs) ∙ take_whole m xs (omega (arith, h))
in_two (suc n) m [] h = absurd (omega (arith, h))
in_two (suc n) m (x ∷ xs) h = ap (λ l. x ∷ l) (in_two n m xs (omega (arith, h)))

pub taken : {X : Type 0} (n m : ℕ) (xs : List X) → length xs ≡ n + m → length (take n xs) ≡ n
taken zero m xs h = refl
taken (suc n) m [] h = absurd (omega (arith, h))
taken (suc n) m (x ∷ xs) h = ap suc (taken n m xs (omega (arith, h)))

-- lists whose members have the same images are of one length
pub as_many : {X Y Z : Type 0} (f : X → Z) (g : Y → Z) (xs : List X) (ys : List Y) → map f xs ≡ map g ys
    → length xs ≡ length ys
as_many f g xs ys h = sym (length-map xs f) ∙ ap length h ∙ length-map ys g

-- a member of what a map makes, and what it is made of
pub at_mapped : {X Y : Type 0} (f : X → Y) (xs : List X) (i : ℕ) (y : Y) → slice_get (map f xs) i ≡ Some y
    → (x : X) × (slice_get xs i ≡ Some x) × (y ≡ f x)
at_mapped f [] i y h = cc
at_mapped f (x ∷ xs) zero y h = let e : y ≡ f x = cc in (x, refl, e)
at_mapped f (x ∷ xs) (suc i) y h = at_mapped f xs i y h

-- what is among the first members is a member
pub taken_has : {X : Type 0} (n : ℕ) (xs : List X) (x : X) → Has x (take n xs) → Has x xs
taken_has zero xs x has = absurd has
taken_has (suc n) [] x has = absurd has
taken_has (suc n) (y ∷ xs) x has = ⊎_elim (λ e. inl e) (λ more. inr (taken_has n xs x more)) has
