-- The small dialect is lawful.
use Rattle.std.proofs.Common.{◌≡◌, ◌⊎◌, ⊎_elim, inl, inr, ℕ, zero, suc, ◌+◌, ◌-◌, ◌<◌, ◌≤◌, Bool, true, false, not, List, [], ◌∷◌, Option, Some, None, length, refl, sym, ap, ◌∙◌, subst, arith}
use Rattle.std.specs.Prelude.{if◌then◌else◌, nat_eq, min, replicate, slice_get}
use Rattle.ir_base.specs.declared.types.TypeHandle.{TypeHandle}
use Rattle.opt_rows.specs.Known.{KnowsMore}
use Rattle.opt_trees.specs.Dialect.{Lawful, drop, rank, renumber, indices_from}
use Rattle.opt_tiny.specs.declared.tiny.Kind.{Kind}
use Rattle.opt_tiny.specs.declared.tiny.Kind.TheVariants.{Box, Pure, Def, Constant, Id, Add, Use, Br, Cond, Ret}
use Rattle.opt_tiny.specs.declared.tiny.Payload.{Payload}
use Rattle.opt_tiny.specs.Meaning.{range, kept, is_foldable, sum_of, first_of, fold_of, answers, is_branch, picked_by, condition, edge_of, is_picked, feasible_of, forwards_of, is_constant, is_br, is_terminator, is_pure, dropped, payload, tiny}

clash : {X : Type 0} → true ≡ false → X
clash e = cc

none_some : {X : Type 0} {a : ℕ} → None ≡ Some a → X
none_some e = cc

same_picked : (n : ℕ) → nat_eq n n ≡ true
same_picked n = grind arith

-- folds

first_more : (xs ys : List (Option ℕ)) → KnowsMore xs ys → (x : ℕ) → first_of xs ≡ Some x → first_of ys ≡ Some x
first_more [] ys h x e = none_some e
first_more (a ∷ []) [] h x e = absurd h
first_more (a ∷ []) (b ∷ []) h x e = h.0 x e
first_more (a ∷ []) (b ∷ (c ∷ ys)) h x e = absurd h.1
first_more (a ∷ (b ∷ xs)) ys h x e = none_some e

sum_more : (xs ys : List (Option ℕ)) → KnowsMore xs ys → (x : ℕ) → sum_of xs ≡ Some x → sum_of ys ≡ Some x
sum_more [] ys h x e = none_some e
sum_more (None ∷ xs) ys h x e = none_some e
sum_more (Some a ∷ []) ys h x e = none_some e
sum_more (Some a ∷ (None ∷ xs)) ys h x e = none_some e
sum_more (Some a ∷ (Some b ∷ (c ∷ xs))) ys h x e = none_some e
sum_more (Some a ∷ (Some b ∷ [])) [] h x e = absurd h
sum_more (Some a ∷ (Some b ∷ [])) (u ∷ []) h x e = absurd h.1
sum_more (Some a ∷ (Some b ∷ [])) (u ∷ (v ∷ (w ∷ ys))) h x e = absurd h.1.1
sum_more (Some a ∷ (Some b ∷ [])) (u ∷ (v ∷ [])) h x e = (λ i. sum_of (h.0 a refl i ∷ (h.1.0 b refl i ∷ []))) ∙ e

fold_more : (k : Kind) (n : ℕ) (xs ys : List (Option ℕ)) → KnowsMore xs ys → (x : ℕ) → fold_of k n xs ≡ Some x → fold_of k n ys ≡ Some x
fold_more Constant n xs ys h x e = e
fold_more Id n xs ys h x e = first_more xs ys h x e
fold_more Add n xs ys h x e = sum_more xs ys h x e
fold_more Box n xs ys h x e = none_some e
fold_more Pure n xs ys h x e = none_some e
fold_more Def n xs ys h x e = none_some e
fold_more Use n xs ys h x e = none_some e
fold_more Br n xs ys h x e = none_some e
fold_more Cond n xs ys h x e = none_some e
fold_more Ret n xs ys h x e = none_some e

if_more : (b : Bool) (a c : Option ℕ) → ((x : ℕ) → a ≡ Some x → c ≡ Some x) → (x : ℕ) → (if b then a else None) ≡ Some x → (if b then c else None) ≡ Some x
if_more true a c h x e = h x e
if_more false a c h x e = none_some e

same_more : (xs : List (Option ℕ)) → KnowsMore xs xs
same_more [] = tt
same_more (x ∷ xs) = (λ a e. e, same_more xs)

answers_more : (a b : Option ℕ) → ((x : ℕ) → a ≡ Some x → b ≡ Some x) → (ts : List TypeHandle) → KnowsMore (answers a ts) (answers b ts)
answers_more a b h [] = tt
answers_more a b h (t ∷ []) = (if_more (nat_eq t.number 0) a b h, tt)
answers_more a b h (t ∷ (u ∷ ts)) = same_more (replicate (length (t ∷ (u ∷ ts))) None)

answers_count : (a : Option ℕ) (ts : List TypeHandle) → length (answers a ts) ≡ length ts
answers_count a [] = refl
answers_count a (t ∷ []) = refl
answers_count a (t ∷ (u ∷ ts)) = as_many (length (t ∷ (u ∷ ts)))
  where
    as_many : (n : ℕ) → (let x : Option ℕ = None in length (replicate n x) ≡ n)
    as_many zero = refl
    as_many (suc n) = ap suc (as_many n)

if_type : (b : Bool) (a : Option ℕ) (x : ℕ) → (if b then a else None) ≡ Some x → b ≡ true
if_type true a x e = refl
if_type false a x e = none_some e

type_zero : (t : TypeHandle) → nat_eq t.number 0 ≡ true → t ≡ record { number = 0 }
type_zero t e = let z : t.number ≡ 0 = grind arith in λ i. record { number = z i }

some_inside : {X : Type 0} (a b : X) → Some a ≡ Some b → a ≡ b
some_inside a b e = cc

answers_types : (a : Option ℕ) (ts : List TypeHandle) (i x : ℕ) → slice_get (answers a ts) i ≡ Some (Some x) → slice_get ts i ≡ Some (record { number = 0 })
answers_types a [] i x e = cc
answers_types a (t ∷ []) zero x e = ap Some (type_zero t (if_type (nat_eq t.number 0) a x (some_inside (if nat_eq t.number 0 then a else None) (Some x) e)))
answers_types a (t ∷ []) (suc i) x e = cc
answers_types a (t ∷ (u ∷ ts)) i x e = none (length (t ∷ (u ∷ ts))) i e
  where
    none : {X : Type 0} (n i : ℕ) → slice_get (replicate n None) i ≡ Some (Some x) → X
    none zero i e = cc
    none (suc n) zero e = none_some (some_inside None (Some x) e)
    none (suc n) (suc i) e = none n i e

-- branches

condition_more : (xs ys : List (Option ℕ)) → KnowsMore xs ys → (x : ℕ) → condition xs ≡ Some x → condition ys ≡ Some x
condition_more [] ys h x e = none_some e
condition_more (a ∷ xs) [] h x e = absurd h
condition_more (a ∷ xs) (b ∷ ys) h x e = h.0 x e

picked_less : (a b : Option ℕ) (i : ℕ) → ((x : ℕ) → a ≡ Some x → b ≡ Some x) → is_picked (picked_by b) i ≡ true → is_picked (picked_by a) i ≡ true
picked_less None b i h e = refl
picked_less (Some x) b i h e = subst (λ o. is_picked (picked_by o) i ≡ true) (h x refl) e

feasible_less : (k : Kind) (xs ys : List (Option ℕ)) (i : ℕ) → KnowsMore xs ys → feasible_of k ys i ≡ true → feasible_of k xs i ≡ true
feasible_less Cond xs ys i h e = picked_less (condition xs) (condition ys) i (condition_more xs ys h) e
feasible_less Constant xs ys i h e = refl
feasible_less Id xs ys i h e = refl
feasible_less Add xs ys i h e = refl
feasible_less Box xs ys i h e = refl
feasible_less Pure xs ys i h e = refl
feasible_less Def xs ys i h e = refl
feasible_less Use xs ys i h e = refl
feasible_less Br xs ys i h e = refl
feasible_less Ret xs ys i h e = refl

picked_feasible : (a : Option ℕ) (i : ℕ) → a ≡ Some i → is_picked a i ≡ true
picked_feasible a i e = subst (λ o. is_picked o i ≡ true) (sym e) (same_picked i)

edge_feasible : (k : Kind) (xs : List (Option ℕ)) (i : ℕ) → edge_of k xs ≡ Some i → feasible_of k xs i ≡ true
edge_feasible Cond xs i e = picked_feasible (picked_by (condition xs)) i e
edge_feasible Br xs i e = refl
edge_feasible Constant xs i e = refl
edge_feasible Id xs i e = refl
edge_feasible Add xs i e = refl
edge_feasible Box xs i e = refl
edge_feasible Pure xs i e = refl
edge_feasible Def xs i e = refl
edge_feasible Use xs i e = refl
edge_feasible Ret xs i e = refl

exclude : (k : Kind) → is_foldable k ≡ true → is_branch k ≡ true → ⊥
exclude Constant a b = clash (sym b)
exclude Id a b = clash (sym b)
exclude Add a b = clash (sym b)
exclude Box a b = clash (sym a)
exclude Pure a b = clash (sym a)
exclude Def a b = clash (sym a)
exclude Use a b = clash (sym a)
exclude Br a b = clash (sym a)
exclude Cond a b = clash (sym a)
exclude Ret a b = clash (sym a)

branch_ends : (k : Kind) → is_branch k ≡ true → is_terminator k ≡ true
branch_ends Br e = refl
branch_ends Cond e = refl
branch_ends Ret e = refl
branch_ends Constant e = e
branch_ends Id e = e
branch_ends Add e = e
branch_ends Box e = e
branch_ends Pure e = e
branch_ends Def e = e
branch_ends Use e = e

-- ranges of indices

rank_next : (p : ℕ → Bool) (s : ℕ) → rank p (suc s) ≡ (if p s then rank p s else suc (rank p s))
rank_next p zero = refl
rank_next p (suc s) =
    (λ i. if p 0 then rank_next (λ j. p (suc j)) s i else suc (rank_next (λ j. p (suc j)) s i))
    ∙ swapped (p 0) (p (suc s)) (rank (λ j. p (suc j)) s)
  where
    swapped : (a b : Bool) (n : ℕ) → (if a then (if b then n else suc n) else suc (if b then n else suc n)) ≡ (if b then (if a then n else suc n) else suc (if a then n else suc n))
    swapped true true n = refl
    swapped true false n = refl
    swapped false true n = refl
    swapped false false n = refl

renumber_range : (p : ℕ → Bool) (s n : ℕ) → renumber p (range s n) ≡ range (rank p s) (kept p s n)
renumber_range p s zero = refl
renumber_range p s (suc n) = step (p s) (renumber p (range (suc s) n)) (rank p s) (rank p (suc s)) (kept p (suc s) n) (renumber_range p (suc s) n) (rank_next p s)
  where
    step : (b : Bool) (xs : List ℕ) (r q k : ℕ) → xs ≡ range q k → q ≡ (if b then r else suc r) → (if b then xs else r ∷ xs) ≡ range r (if b then k else suc k)
    step true xs r q k e f = e ∙ ap (λ z. range z k) f
    step false xs r q k e f = ap (λ z. r ∷ z) (e ∙ ap (λ z. range z k) f)

rank_split : (p : ℕ → Bool) (s n : ℕ) → rank p (s + n) ≡ rank p s + kept p s n
rank_split p s zero = (let e : s + 0 ≡ s = omega arith in ap (rank p) e) ∙ (let e : rank p s ≡ rank p s + 0 = omega arith in e)
rank_split p s (suc n) = (let e : s + suc n ≡ suc s + n = omega arith in ap (rank p) e) ∙ rank_split p (suc s) n ∙ step (p s) (rank p s) (rank p (suc s)) (kept p (suc s) n) (rank_next p s)
  where
    step : (b : Bool) (r q k : ℕ) → q ≡ (if b then r else suc r) → q + k ≡ r + (if b then k else suc k)
    step true r q k e = ap (λ z. z + k) e
    step false r q k e = let f : suc r + k ≡ r + suc k = omega arith in ap (λ z. z + k) e ∙ f

drop_length : {X : Type 0} (p : ℕ → Bool) (xs : List X) → length (drop p xs) ≡ rank p (length xs)
drop_length p [] = refl
drop_length {X} p (x ∷ xs) = step (p 0) (drop (λ i. p (suc i)) xs) (rank (λ i. p (suc i)) (length xs)) (drop_length (λ i. p (suc i)) xs)
  where
    step : (b : Bool) (ys : List X) (r : ℕ) → length ys ≡ r → length (if b then ys else x ∷ ys) ≡ (if b then r else suc r)
    step true ys r e = e
    step false ys r e = ap suc e

kept_more : (p : ℕ → Bool) (s n m : ℕ) → kept p s n ≤ kept p s (n + m)
kept_more p s n m =
    let a : rank p (s + n) ≡ rank p s + kept p s n = rank_split p s n in
    let b : rank p (s + (n + m)) ≡ rank p s + kept p s (n + m) = rank_split p s (n + m) in
    let c : rank p ((s + n) + m) ≡ rank p (s + n) + kept p (s + n) m = rank_split p (s + n) m in
    let e : s + (n + m) ≡ (s + n) + m = omega arith in
    let f : rank p (s + (n + m)) ≡ rank p ((s + n) + m) = ap (rank p) e in
    omega arith

kept_order : (p : ℕ → Bool) (s n m : ℕ) → n ≤ m → kept p s n ≤ kept p s m
kept_order p s n m h = let e : n + (m - n) ≡ m = omega arith in subst (λ z. kept p s n ≤ kept p s z) e (kept_more p s n (m - n))

min_left : (a b : ℕ) → a ≤ b → min a b ≡ a
min_left a b h = omega arith

min_right : (a b : ℕ) → b ≤ a → min a b ≡ b
min_right a b h = omega arith

order : (a b : ℕ) → (a ≤ b) ⊎ (b ≤ a)
order a b = grind arith

kept_min : (p : ℕ → Bool) (s a b : ℕ) → kept p s (min a b) ≡ min (kept p s a) (kept p s b)
kept_min p s a b =
    ⊎_elim
    (λ h. ap (kept p s) (min_left a b h) ∙ sym (min_left (kept p s a) (kept p s b) (kept_order p s a b h)))
    (λ h. ap (kept p s) (min_right a b h) ∙ sym (min_right (kept p s a) (kept p s b) (kept_order p s b a h)))
    (order a b)

-- what is forwarded after operands are dropped

all_forwarded : (p : ℕ → Bool) (n m : ℕ) → m ≡ rank p n → range 0 m ≡ renumber p (range 0 n)
all_forwarded p n m e =
    let k : rank p (0 + n) ≡ rank p 0 + kept p 0 n = rank_split p 0 n in
    let z : 0 + n ≡ n = omega arith in
    let f : rank p (0 + n) ≡ rank p n = ap (rank p) z in
    let g : m ≡ kept p 0 n = omega arith in
    ap (range 0) g ∙ sym (renumber_range p 0 n)

first_kept : (p : ℕ → Bool) → (p 0 ≡ true → ⊥) → rank p 1 ≡ 1
first_kept p h = step (p 0) h
  where
    step : (b : Bool) → (b ≡ true → ⊥) → (if b then 0 else suc 0) ≡ 1
    step true h = absurd (h refl)
    step false h = refl

one_less : (p : ℕ → Bool) (n : ℕ) → rank p 1 ≡ 1 → rank p n - 1 ≡ kept p 1 (n - 1)
one_less p zero e = refl
one_less p (suc n) e =
    let k : rank p (1 + n) ≡ rank p 1 + kept p 1 n = rank_split p 1 n in
    let z : 1 + n ≡ suc n = omega arith in
    let f : rank p (1 + n) ≡ rank p (suc n) = ap (rank p) z in
    let y : suc n - 1 ≡ n = omega arith in
    let g : rank p (suc n) - 1 ≡ kept p 1 n = omega arith in
    g ∙ ap (kept p 1) (sym y)

first_edge : (p : ℕ → Bool) (first n m : ℕ) → rank p 1 ≡ 1 → m ≡ rank p n → range 1 (min (kept p 1 first) (m - 1)) ≡ renumber p (range 1 (min first (n - 1)))
first_edge p first n m one e =
    let a : m - 1 ≡ kept p 1 (n - 1) = ap (λ z. z - 1) e ∙ one_less p n one in
    ap (λ z. range 1 (min (kept p 1 first) z)) a ∙ ap (range 1) (sym (kept_min p 1 first (n - 1)))
    ∙ ap (λ z. range z (kept p 1 (min first (n - 1)))) (sym one) ∙ sym (renumber_range p 1 (min first (n - 1)))

second_edge : (p : ℕ → Bool) (first n m : ℕ) → rank p 1 ≡ 1 → m ≡ rank p n → range (1 + kept p 1 first) (m - (1 + kept p 1 first)) ≡ renumber p (range (1 + first) (n - (1 + first)))
second_edge p first n m one e =
    let start : rank p (1 + first) ≡ rank p 1 + kept p 1 first = rank_split p 1 first in
    let s : rank p (1 + first) ≡ 1 + kept p 1 first = omega arith in
    let count : m - (1 + kept p 1 first) ≡ kept p (1 + first) (n - (1 + first)) =
    ⊎_elim
    (λ (h : 1 + first ≤ n).
    let k : rank p ((1 + first) + (n - (1 + first))) ≡ rank p (1 + first) + kept p (1 + first) (n - (1 + first)) = rank_split p (1 + first) (n - (1 + first)) in
    let z : (1 + first) + (n - (1 + first)) ≡ n = omega arith in
    let f : rank p ((1 + first) + (n - (1 + first))) ≡ rank p n = ap (rank p) z in
    omega arith)
    (λ (h : n ≤ 1 + first).
    let z : n - (1 + first) ≡ 0 = omega arith in
    let k : rank p (n + ((1 + first) - n)) ≡ rank p n + kept p n ((1 + first) - n) = rank_split p n ((1 + first) - n) in
    let y : n + ((1 + first) - n) ≡ 1 + first = omega arith in
    let f : rank p (n + ((1 + first) - n)) ≡ rank p (1 + first) = ap (rank p) y in
    let g : kept p (1 + first) (n - (1 + first)) ≡ 0 = ap (kept p (1 + first)) z in
    omega arith)
    (order (1 + first) n) in
    let t : 1 + kept p 1 first ≡ rank p (1 + first) = sym s in
    (λ i. range (t i) (count i)) ∙ sym (renumber_range p (1 + first) (n - (1 + first)))

range_at : (s n k i : ℕ) → slice_get (range s n) k ≡ Some i → (i ≡ s + k) × (k < n)
range_at s zero k i e = cc
range_at s (suc n) zero i e = let f : s ≡ i = some_inside s i e in (omega arith, omega arith)
range_at s (suc n) (suc k) i e = let r = range_at (suc s) n k i e in let a : i ≡ suc s + k = r.0 in let b : k < n = r.1 in (omega arith, omega arith)

br_forward : (first n s k i : ℕ) → slice_get (forwards_of Br first n s) k ≡ Some i → (s ≡ 0) × (i ≡ k)
br_forward first n s k i e = step (nat_eq s 0) refl e
  where
    step : (b : Bool) → nat_eq s 0 ≡ b → slice_get (if b then range 0 n else []) k ≡ Some i → (s ≡ 0) × (i ≡ k)
    step true z e = let r = range_at 0 n k i e in let a : i ≡ 0 + k = r.0 in (grind arith, omega arith)
    step false z e = cc

cond_forward : (first n s k i : ℕ) → slice_get (forwards_of Cond first n s) k ≡ Some i → ((s ≡ 0) × (i ≡ 1 + k) × (k < first)) ⊎ ((s ≡ 1) × (i ≡ (1 + first) + k))
cond_forward first n s k i e = step (nat_eq s 0) (nat_eq s 1) refl refl e
  where
    step : (b c : Bool) → nat_eq s 0 ≡ b → nat_eq s 1 ≡ c → slice_get (if b then range 1 (min first (n - 1)) else (if c then range (1 + first) (n - (1 + first)) else [])) k ≡ Some i → ((s ≡ 0) × (i ≡ 1 + k) × (k < first)) ⊎ ((s ≡ 1) × (i ≡ (1 + first) + k))
    step true c z y e = let r = range_at 1 (min first (n - 1)) k i e in let a : i ≡ 1 + k = r.0 in let b : k < min first (n - 1) = r.1 in inl (grind arith, a, omega arith)
    step false true z y e = let r = range_at (1 + first) (n - (1 + first)) k i e in inr (grind arith, r.0)
    step false false z y e = cc

forwards_within : (c : Kind) (first n s k i : ℕ) → slice_get (forwards_of c first n s) k ≡ Some i → i < n
forwards_within Br first n s k i e = step (nat_eq s 0) e
  where
    step : (b : Bool) → slice_get (if b then range 0 n else []) k ≡ Some i → i < n
    step true e = let r = range_at 0 n k i e in let a : i ≡ 0 + k = r.0 in let b : k < n = r.1 in omega arith
    step false e = cc
forwards_within Cond first n s k i e = step (nat_eq s 0) (nat_eq s 1) e
  where
    step : (b c : Bool) → slice_get (if b then range 1 (min first (n - 1)) else (if c then range (1 + first) (n - (1 + first)) else [])) k ≡ Some i → i < n
    step true c e = let r = range_at 1 (min first (n - 1)) k i e in let a : i ≡ 1 + k = r.0 in let b : k < min first (n - 1) = r.1 in omega arith
    step false true e = let r = range_at (1 + first) (n - (1 + first)) k i e in let a : i ≡ (1 + first) + k = r.0 in let b : k < n - (1 + first) = r.1 in omega arith
    step false false e = cc
forwards_within Constant first n s k i e = cc
forwards_within Id first n s k i e = cc
forwards_within Add first n s k i e = cc
forwards_within Box first n s k i e = cc
forwards_within Pure first n s k i e = cc
forwards_within Def first n s k i e = cc
forwards_within Use first n s k i e = cc
forwards_within Ret first n s k i e = cc

forwards_once : (c : Kind) (first n s k u j i : ℕ) → slice_get (forwards_of c first n s) k ≡ Some i → slice_get (forwards_of c first n u) j ≡ Some i → (s ≡ u) × (k ≡ j)
forwards_once Br first n s k u j i e f = let a = br_forward first n s k i e in let b = br_forward first n u j i f in (a.0 ∙ sym b.0, sym a.1 ∙ b.1)
forwards_once Cond first n s k u j i e f =
    ⊎_elim
    (λ a. ⊎_elim (λ b. let x : i ≡ 1 + k = a.1 in let y : i ≡ 1 + j = b.1 in (a.0 ∙ sym b.0, omega arith)) (λ b. let x : i ≡ 1 + k = a.1 in let y : i ≡ (1 + first) + j = b.1 in let z : k < first = a.2 in absurd (omega arith)) (cond_forward first n u j i f))
    (λ a. ⊎_elim (λ b. let x : i ≡ (1 + first) + k = a.1 in let y : i ≡ 1 + j = b.1 in let z : j < first = b.2 in absurd (omega arith)) (λ b. let x : i ≡ (1 + first) + k = a.1 in let y : i ≡ (1 + first) + j = b.1 in (a.0 ∙ sym b.0, omega arith)) (cond_forward first n u j i f))
    (cond_forward first n s k i e)
forwards_once Constant first n s k u j i e f = cc
forwards_once Id first n s k u j i e f = cc
forwards_once Add first n s k u j i e f = cc
forwards_once Box first n s k u j i e f = cc
forwards_once Pure first n s k u j i e f = cc
forwards_once Def first n s k u j i e f = cc
forwards_once Use first n s k u j i e f = cc
forwards_once Ret first n s k u j i e f = cc

either_way : (p : ℕ → Bool) (b : Bool) (xs ys us vs : List ℕ) → xs ≡ renumber p us → ys ≡ renumber p vs → (if b then xs else ys) ≡ renumber p (if b then us else vs)
either_way p true xs ys us vs e f = e
either_way p false xs ys us vs e f = f

condition_stays : (first n : ℕ) (p : ℕ → Bool) → ((i : ℕ) → p i ≡ true → (s : ℕ) × (k : ℕ) × (slice_get (forwards_of Cond first n s) k ≡ Some i)) → p 0 ≡ true → ⊥
condition_stays first n p h e =
    let w = h 0 e in
    ⊎_elim (λ a. let x : 0 ≡ 1 + w.1 = a.1 in omega arith) (λ a. let x : 0 ≡ (1 + first) + w.1 = a.1 in omega arith) (cond_forward first n w.0 w.1 0 w.2)

drop_forwards : (k : Kind) (c : Payload) (p : ℕ → Bool) (n m s : ℕ) → m ≡ rank p n → ((i : ℕ) → p i ≡ true → (s : ℕ) × (j : ℕ) × (slice_get (forwards_of k c.first n s) j ≡ Some i)) → forwards_of k (dropped k c p).first m s ≡ renumber p (forwards_of k c.first n s)
drop_forwards Br c p n m s e h = either_way p (nat_eq s 0) (range 0 m) [] (range 0 n) [] (all_forwarded p n m e) refl
drop_forwards Cond c p n m s e h =
    let one = first_kept p (condition_stays c.first n p h) in
    either_way p (nat_eq s 0) (range 1 (min (kept p 1 c.first) (m - 1))) (if nat_eq s 1 then range (1 + kept p 1 c.first) (m - (1 + kept p 1 c.first)) else []) (range 1 (min c.first (n - 1))) (if nat_eq s 1 then range (1 + c.first) (n - (1 + c.first)) else [])
    (first_edge p c.first n m one e)
    (either_way p (nat_eq s 1) (range (1 + kept p 1 c.first) (m - (1 + kept p 1 c.first))) [] (range (1 + c.first) (n - (1 + c.first))) [] (second_edge p c.first n m one e) refl)
drop_forwards Constant c p n m s e h = refl
drop_forwards Id c p n m s e h = refl
drop_forwards Add c p n m s e h = refl
drop_forwards Box c p n m s e h = refl
drop_forwards Pure c p n m s e h = refl
drop_forwards Def c p n m s e h = refl
drop_forwards Use c p n m s e h = refl
drop_forwards Ret c p n m s e h = refl

lose_nothing : (k : Kind) (c : Payload) → dropped k c (λ i. false) ≡ c
lose_nothing Cond c = λ i. record c { first = all_stay 1 c.first i }
  where
    all_stay : (s n : ℕ) → kept (λ i. false) s n ≡ n
    all_stay s zero = refl
    all_stay s (suc n) = ap suc (all_stay (suc s) n)
lose_nothing Constant c = refl
lose_nothing Id c = refl
lose_nothing Add c = refl
lose_nothing Box c = refl
lose_nothing Pure c = refl
lose_nothing Def c = refl
lose_nothing Use c = refl
lose_nothing Br c = refl
lose_nothing Ret c = refl

same_kind : (k : Kind) (c : Payload) (p : ℕ → Bool) → (dropped k c p).kind ≡ c.kind
same_kind Cond c p = refl
same_kind Constant c p = refl
same_kind Id c p = refl
same_kind Add c p = refl
same_kind Box c p = refl
same_kind Pure c p = refl
same_kind Def c p = refl
same_kind Use c p = refl
same_kind Br c p = refl
same_kind Ret c p = refl

plain_forwards : (c : Payload) (xs : List ℕ) → Some (payload Br 0) ≡ Some c → forwards_of c.kind c.first (length xs) 0 ≡ indices_from 0 xs
plain_forwards c xs e = let f : payload Br 0 ≡ c = cc in subst (λ z. forwards_of z.kind z.first (length xs) 0 ≡ indices_from 0 xs) f (all 0 xs)
  where
    all : (s : ℕ) (xs : List ℕ) → range s (length xs) ≡ indices_from s xs
    all s [] = refl
    all s (x ∷ xs) = ap (λ z. s ∷ z) (all (suc s) xs)

pub tiny_lawful : Lawful tiny
tiny_lawful = record {
  folds_more = λ c ts xs ys h. answers_more (fold_of c.kind c.number xs) (fold_of c.kind c.number ys) (fold_more c.kind c.number xs ys h) ts;
  feasible_less = λ c xs ys i h e. feasible_less c.kind xs ys i h e;
  edge_feasible = λ c xs i e. edge_feasible c.kind xs i e;
  exclude = λ c a b. exclude c.kind a b;
  branch_ends = λ c e. branch_ends c.kind e;
  fold_count = λ c ts xs. answers_count (fold_of c.kind c.number xs) ts;
  fold_types = λ c ts xs i a e. answers_types (fold_of c.kind c.number xs) ts i a e;
  constant_folds = λ c a e. let f : payload Constant a ≡ c = cc in subst (λ z. (is_constant z.kind ≡ true) × (is_foldable z.kind ≡ true) × (answers (fold_of z.kind z.number []) (record { number = 0 } ∷ []) ≡ Some a ∷ [])) f (refl, refl, refl);
  plain_is = λ c e. let f : payload Br 0 ≡ c = cc in subst (λ z. (is_br z.kind ≡ true) × (is_branch z.kind ≡ true)) f (refl, refl);
  plain_forwards = plain_forwards;
  forwards_within = λ c n s k i e. forwards_within c.kind c.first n s k i e;
  forwards_once = λ c n s k u j i e f. forwards_once c.kind c.first n s k u j i e f;
  drop_branch = λ c p. ap is_branch (same_kind c.kind c p);
  drop_terminator = λ c p. ap is_terminator (same_kind c.kind c p);
  drop_effects = λ c p. ap (λ k. not (is_pure k)) (same_kind c.kind c p);
  drop_removes = λ c p region first. refl;
  drop_forwards = λ c p xs s h. (λ i. forwards_of (same_kind c.kind c p i) (dropped c.kind c p).first (length (drop p xs)) s) ∙ drop_forwards c.kind c p (length xs) (length (drop p xs)) s (drop_length p xs) h;
  drop_no_operands = λ c. lose_nothing c.kind c;
  drop_no_names = λ b. refl;
}

pub same_numbers : (x y : ℕ) → nat_eq x y ≡ true → x ≡ y
same_numbers x y e = grind arith
