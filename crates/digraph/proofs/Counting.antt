-- Counting in two ways.
use Rattle.std.proofs.Common.{◌≡◌, ◌⊎◌, inl, inr, ⊎_elim, ℕ, ◌+◌, ◌≤◌, List, [], ◌∷◌, ◌++◌, zero, suc, Some, Bool, true, false, length, nat_eq, refl, sym, ap, subst, arith, eq-eqb}
use Rattle.std.specs.Prelude.{Contains, slice_get}
use Rattle.std.proofs.lemmas.Option.{slice_get_within, get_or_from_slice_get, none-some, same_Some}
use Rattle.std.proofs.lemmas.List.Elements.{Contains-push_cases, Contains-append_right, Contains-append_cases}
use Rattle.digraph.specs.Counts.{one, count_of, total}

pub one_bound : (b : Bool) → one b ≤ 1
one_bound true = omega arith
one_bound false = omega arith

pub count-append : (n : ℕ) (xs ys : List ℕ) → count_of n (xs ++ ys) ≡ count_of n xs + count_of n ys
count-append n [] ys = omega arith
count-append n (x ∷ xs) ys = omega (arith, count-append n xs ys)

pub total-append : (f : ℕ → ℕ) (xs ys : List ℕ) → total f (xs ++ ys) ≡ total f xs + total f ys
total-append f [] ys = omega arith
total-append f (x ∷ xs) ys = omega (arith, total-append f xs ys)

eq_sym : (a b : ℕ) → one (nat_eq a b) ≡ one (nat_eq b a)
eq_sym a b = grind arith

total_put : (xs ts : List ℕ) (t : ℕ) → total (λ x. count_of x (t ∷ ts)) xs ≡ count_of t xs + total (λ x. count_of x ts) xs
total_put [] ts t = refl
total_put (x ∷ xs) ts t = omega (arith, total_put xs ts t, eq_sym x t)

total_none : (xs : List ℕ) → total (λ x. 0) xs ≡ 0
total_none [] = refl
total_none (x ∷ xs) = omega (arith, total_none xs)

pub total_swap : (xs ts : List ℕ) → total (λ u. count_of u xs) ts ≡ total (λ x. count_of x ts) xs
total_swap xs [] = sym (total_none xs)
total_swap xs (t ∷ ts) = omega (arith, total_swap xs ts, total_put xs ts t)

pub total_most : (f : ℕ → ℕ) → ((n : ℕ) → f n ≤ 1) → (xs : List ℕ) → total f xs ≤ length xs
total_most f h [] = omega arith
total_most f h (x ∷ xs) = let a = h x in let b = total_most f h xs in omega (arith, a, b)

pub first_or : (n : ℕ) (ns : List ℕ) (x : ℕ) → Contains (n ∷ ns) x → (x ≡ n) ⊎ Contains ns x
first_or n ns x h = ⊎_elim (λ a. ⊎_elim (λ b. absurd (omega (arith, b.1))) (λ e. inl (sym e)) (Contains-push_cases [] n x a)) (λ b. inr b) (Contains-append_cases (n ∷ []) ns x h)

pub total_full : (f : ℕ → ℕ) → ((n : ℕ) → f n ≤ 1) → (xs : List ℕ) → length xs ≤ total f xs → (n : ℕ) → Contains xs n → 1 ≤ f n
total_full f h [] g n c = absurd (omega (arith, c.1))
total_full f h (x ∷ xs) g n c =
    let a = h x in let b = total_most f h xs in
    ⊎_elim (λ e. subst (λ k. 1 ≤ f k) (sym e) (omega (arith, a, b, g))) (λ d. total_full f h xs (omega (arith, a, b, g)) n d) (first_or x xs n c)

pub total_least : (f : ℕ → ℕ) (xs : List ℕ) → ((n : ℕ) → Contains xs n → 1 ≤ f n) → length xs ≤ total f xs
total_least f [] h = omega arith
total_least f (x ∷ xs) h =
    let a = h x (0, omega arith, refl) in
    let b = total_least f xs (λ n c. h n (Contains-append_right (x ∷ []) xs n c)) in omega (arith, a, b)

pub counted : (n : ℕ) (xs : List ℕ) → Contains xs n → 1 ≤ count_of n xs
counted n [] h = absurd (omega (arith, h.1))
counted n (x ∷ xs) h = ⊎_elim (λ e. let q = ap one (eq-eqb n x e) in omega (arith, q)) (λ d. let q = counted n xs d in omega (arith, q)) (first_or x xs n h)

pub same_numbers : (n x : ℕ) → nat_eq n x ≡ true → n ≡ x
same_numbers n x e = grind arith

pub contained : (n : ℕ) (xs : List ℕ) → 1 ≤ count_of n xs → Contains xs n
contained n [] h = absurd (omega arith)
contained n (x ∷ xs) h = go (nat_eq n x) refl h (contained n xs)
  where
    go : (b : Bool) → nat_eq n x ≡ b → 1 ≤ one b + count_of n xs → (1 ≤ count_of n xs → Contains xs n) → Contains (x ∷ xs) n
    go true e q ih = subst (λ k. Contains (x ∷ xs) k) (sym (same_numbers n x e)) (0, omega arith, refl)
    go false e q ih = Contains-append_right (x ∷ []) xs n (ih (omega arith))

at_contained : (n : ℕ) (xs : List ℕ) (i : ℕ) → slice_get xs i ≡ Some n → Contains xs n
at_contained n xs i e = (i, slice_get_within xs i n e, get_or_from_slice_get xs i n n e)

twice : (n x : ℕ) (xs : List ℕ) → one (nat_eq n x) + count_of n xs ≤ 1 → n ≡ x → Contains xs n → ⊥
twice n x xs h e c = let q = ap one (eq-eqb n x e) in let r = counted n xs c in omega (arith, h, q, r)

-- what a list has once stands at one place
pub once_at : (n : ℕ) (xs : List ℕ) → count_of n xs ≤ 1 → (i j : ℕ) → slice_get xs i ≡ Some n → slice_get xs j ≡ Some n → i ≡ j
once_at n [] h i j a b = absurd (none-some n a)
once_at n (x ∷ xs) h zero zero a b = refl
once_at n (x ∷ xs) h zero (suc j) a b = absurd (twice n x xs h (sym (same_Some x n a)) (at_contained n xs j b))
once_at n (x ∷ xs) h (suc i) zero a b = absurd (twice n x xs h (sym (same_Some x n b)) (at_contained n xs i a))
once_at n (x ∷ xs) h (suc i) (suc j) a b = ap suc (once_at n xs (omega (arith, h)) i j a b)
