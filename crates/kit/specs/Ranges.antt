-- Ranges of indices of which some go.
use Rattle.std.proofs.Common.{◌≡◌, ◌⊎◌, ⊎_elim, ℕ, zero, suc, ◌+◌, ◌-◌, ◌<◌, ◌≤◌, Bool, true, false, List, [], ◌∷◌}
use Rattle.std.proofs.Common.{Some, length, refl, sym, ap, ◌∙◌, subst, arith}
use Rattle.std.specs.Prelude.{if◌then◌else◌, min, slice_get}
use Rattle.opt_trees.specs.Dialect.{drop, rank, renumber, indices_from}
use Rattle.kit.specs.Dropped.{kept}
use Rattle.kit.specs.Meaning.{range}

rank_next : (p : ℕ → Bool) (s : ℕ) → rank p (suc s) ≡ (if p s then rank p s else suc (rank p s))
rank_next p zero = refl
rank_next p (suc s) =
    (λ i. if p 0 then rank_next (λ j. p (suc j)) s i else suc (rank_next (λ j. p (suc j)) s i))
    ∙ swapped (p 0) (p (suc s)) (rank (λ j. p (suc j)) s)
  where
    swapped : (a b : Bool) (n : ℕ)
        → (if a then (if b then n else suc n) else suc (if b then n else suc n)) ≡
        (if b then (if a then n else suc n) else suc (if a then n else suc n))
    swapped true true n = refl
    swapped true false n = refl
    swapped false true n = refl
    swapped false false n = refl

renumber_range : (p : ℕ → Bool) (s n : ℕ) → renumber p (range s n) ≡ range (rank p s) (kept p s n)
renumber_range p s zero = refl
renumber_range p s (suc n) = step (p s) (renumber p (range (suc s) n)) (rank p s) (rank p (suc s)) (kept p (suc s) n)
    (renumber_range p (suc s) n) (rank_next p s)
  where
    step : (b : Bool) (xs : List ℕ) (r q k : ℕ) → xs ≡ range q k → q ≡ (if b then r else suc r)
        → (if b then xs else r ∷ xs) ≡ range r (if b then k else suc k)
    step true xs r q k e f = e ∙ ap (λ z. range z k) f
    step false xs r q k e f = ap (λ z. r ∷ z) (e ∙ ap (λ z. range z k) f)

rank_split : (p : ℕ → Bool) (s n : ℕ) → rank p (s + n) ≡ rank p s + kept p s n
rank_split p s zero = (let e : s + 0 ≡ s = omega arith in ap (rank p) e)
    ∙ (let e : rank p s ≡ rank p s + 0 = omega arith in e)
rank_split p s (suc n) = (let e : s + suc n ≡ suc s + n = omega arith in ap (rank p) e) ∙ rank_split p (suc s) n
    ∙ step (p s) (rank p s) (rank p (suc s)) (kept p (suc s) n) (rank_next p s)
  where
    step : (b : Bool) (r q k : ℕ) → q ≡ (if b then r else suc r) → q + k ≡ r + (if b then k else suc k)
    step true r q k e = ap (λ z. z + k) e
    step false r q k e = let f : suc r + k ≡ r + suc k = omega arith in ap (λ z. z + k) e ∙ f

pub drop_length : {X : Type 0} (p : ℕ → Bool) (xs : List X) → length (drop p xs) ≡ rank p (length xs)
drop_length p [] = refl
drop_length {X} p (x ∷ xs) = step (p 0) (drop (λ i. p (suc i)) xs) (rank (λ i. p (suc i)) (length xs))
    (drop_length (λ i. p (suc i)) xs)
  where
    step : (b : Bool) (ys : List X) (r : ℕ) → length ys ≡ r
        → length (if b then ys else x ∷ ys) ≡ (if b then r else suc r)
    step true ys r e = e
    step false ys r e = ap suc e

kept_more : (p : ℕ → Bool) (s n m : ℕ) → kept p s n ≤ kept p s (n + m)
kept_more p s n m =
    let a : rank p (s + n) ≡ rank p s + kept p s n = rank_split p s n in
    let b : rank p (s + (n + m)) ≡ rank p s + kept p s (n + m) = rank_split p s (n + m) in
    let c : rank p ((s + n) + m) ≡ rank p (s + n) + kept p (s + n) m = rank_split p (s + n) m in
    let e : s + (n + m) ≡ (s + n) + m = omega arith in
    let f : rank p (s + (n + m)) ≡ rank p ((s + n) + m) = ap (rank p) e in
    omega arith

kept_order : (p : ℕ → Bool) (s n m : ℕ) → n ≤ m → kept p s n ≤ kept p s m
kept_order p s n m h = let e : n + (m - n) ≡ m = omega arith in
    subst (λ z. kept p s n ≤ kept p s z) e (kept_more p s n (m - n))

min_left : (a b : ℕ) → a ≤ b → min a b ≡ a
min_left a b h = omega arith

min_right : (a b : ℕ) → b ≤ a → min a b ≡ b
min_right a b h = omega arith

order : (a b : ℕ) → (a ≤ b) ⊎ (b ≤ a)
order a b = grind arith

kept_min : (p : ℕ → Bool) (s a b : ℕ) → kept p s (min a b) ≡ min (kept p s a) (kept p s b)
kept_min p s a b =
    ⊎_elim
    (λ h. ap (kept p s) (min_left a b h) ∙ sym (min_left (kept p s a) (kept p s b) (kept_order p s a b h)))
    (λ h. ap (kept p s) (min_right a b h) ∙ sym (min_right (kept p s a) (kept p s b) (kept_order p s b a h)))
    (order a b)

-- ranges after some indices go

pub all_forwarded : (p : ℕ → Bool) (n m : ℕ) → m ≡ rank p n → range 0 m ≡ renumber p (range 0 n)
all_forwarded p n m e =
    let k : rank p (0 + n) ≡ rank p 0 + kept p 0 n = rank_split p 0 n in
    let z : 0 + n ≡ n = omega arith in
    let f : rank p (0 + n) ≡ rank p n = ap (rank p) z in
    let g : m ≡ kept p 0 n = omega arith in
    ap (range 0) g ∙ sym (renumber_range p 0 n)

pub first_kept : (p : ℕ → Bool) → (p 0 ≡ true → ⊥) → rank p 1 ≡ 1
first_kept p h = step (p 0) h
  where
    step : (b : Bool) → (b ≡ true → ⊥) → (if b then 0 else suc 0) ≡ 1
    step true h = absurd (h refl)
    step false h = refl

one_less : (p : ℕ → Bool) (n : ℕ) → rank p 1 ≡ 1 → rank p n - 1 ≡ kept p 1 (n - 1)
one_less p zero e = refl
one_less p (suc n) e =
    let k : rank p (1 + n) ≡ rank p 1 + kept p 1 n = rank_split p 1 n in
    let z : 1 + n ≡ suc n = omega arith in
    let f : rank p (1 + n) ≡ rank p (suc n) = ap (rank p) z in
    let y : suc n - 1 ≡ n = omega arith in
    let g : rank p (suc n) - 1 ≡ kept p 1 n = omega arith in
    g ∙ ap (kept p 1) (sym y)

pub first_edge : (p : ℕ → Bool) (first n m : ℕ) → rank p 1 ≡ 1 → m ≡ rank p n
    → range 1 (min (kept p 1 first) (m - 1)) ≡ renumber p (range 1 (min first (n - 1)))
first_edge p first n m one e =
    let a : m - 1 ≡ kept p 1 (n - 1) = ap (λ z. z - 1) e ∙ one_less p n one in
    ap (λ z. range 1 (min (kept p 1 first) z)) a ∙ ap (range 1) (sym (kept_min p 1 first (n - 1)))
    ∙ ap (λ z. range z (kept p 1 (min first (n - 1)))) (sym one) ∙ sym (renumber_range p 1 (min first (n - 1)))

pub second_edge : (p : ℕ → Bool) (first n m : ℕ) → rank p 1 ≡ 1 → m ≡ rank p n
    → range (1 + kept p 1 first) (m - (1 + kept p 1 first)) ≡ renumber p (range (1 + first) (n - (1 + first)))
second_edge p first n m one e =
    let start : rank p (1 + first) ≡ rank p 1 + kept p 1 first = rank_split p 1 first in
    let s : rank p (1 + first) ≡ 1 + kept p 1 first = omega arith in
    let count : m - (1 + kept p 1 first) ≡ kept p (1 + first) (n - (1 + first)) =
    ⊎_elim
    (λ (h : 1 + first ≤ n).
    let k : rank p ((1 + first) + (n - (1 + first))) ≡ rank p (1 + first) + kept p (1 + first)
    (n - (1 + first)) = rank_split p (1 + first) (n - (1 + first)) in
    let z : (1 + first) + (n - (1 + first)) ≡ n = omega arith in
    let f : rank p ((1 + first) + (n - (1 + first))) ≡ rank p n = ap (rank p) z in
    omega arith)
    (λ (h : n ≤ 1 + first).
    let z : n - (1 + first) ≡ 0 = omega arith in
    let k : rank p (n + ((1 + first) - n)) ≡ rank p n + kept p n ((1 + first) - n) = rank_split p n ((1 + first) - n) in
    let y : n + ((1 + first) - n) ≡ 1 + first = omega arith in
    let f : rank p (n + ((1 + first) - n)) ≡ rank p (1 + first) = ap (rank p) y in
    let g : kept p (1 + first) (n - (1 + first)) ≡ 0 = ap (kept p (1 + first)) z in
    omega arith)
    (order (1 + first) n) in
    let t : 1 + kept p 1 first ≡ rank p (1 + first) = sym s in
    (λ i. range (t i) (count i)) ∙ sym (renumber_range p (1 + first) (n - (1 + first)))

some_inside : {X : Type 0} (a b : X) → Some a ≡ Some b → a ≡ b
some_inside a b e = cc

pub range_at : (s n k i : ℕ) → slice_get (range s n) k ≡ Some i → (i ≡ s + k) × (k < n)
range_at s zero k i e = cc
range_at s (suc n) zero i e = let f : s ≡ i = some_inside s i e in (omega arith, omega arith)
range_at s (suc n) (suc k) i e = let r = range_at (suc s) n k i e in let a : i ≡ suc s + k = r.0 in
    let b : k < n = r.1 in (omega arith, omega arith)

pub all_indices : (s : ℕ) (xs : List ℕ) → range s (length xs) ≡ indices_from s xs
all_indices s [] = refl
all_indices s (x ∷ xs) = ap (λ z. s ∷ z) (all_indices (suc s) xs)
