-- What branches forward, and what they forward after operands go.
use Rattle.std.proofs.Common.{◌≡◌, ◌⊎◌, ⊎_elim, inl, inr, ℕ, ◌+◌, ◌-◌, ◌<◌, Bool, true, false, List, [], Some, refl}
use Rattle.std.proofs.Common.{sym, ◌∙◌, arith}
use Rattle.std.specs.Prelude.{if◌then◌else◌, nat_eq, min, slice_get}
use Rattle.opt_trees.specs.Dialect.{rank, renumber}
use Rattle.kit_ops.specs.declared.kinds.KitOp.{KitOp}
use Rattle.kit_ops.specs.declared.kinds.KitOp.TheVariants as ops
use Rattle.kit.specs.Dropped.{kept}
use Rattle.kit.specs.Meaning.{range, forwards_of}
use Rattle.kit.specs.Ranges.{all_forwarded, first_kept, first_edge, second_edge, range_at}

br_forward : (first n s k i : ℕ) → slice_get (forwards_of ops.Br first n s) k ≡ Some i → (s ≡ 0) × (i ≡ k)
br_forward first n s k i e = step (nat_eq s 0) refl e
  where
    step : (b : Bool) → nat_eq s 0 ≡ b → slice_get (if b then range 0 n else []) k ≡ Some i → (s ≡ 0) × (i ≡ k)
    step true z e = let r = range_at 0 n k i e in let a : i ≡ 0 + k = r.0 in (grind arith, omega arith)
    step false z e = cc

cond_forward : (first n s k i : ℕ) → slice_get (forwards_of ops.CondBr first n s) k ≡ Some i
    → ((s ≡ 0) × (i ≡ 1 + k) × (k < first)) ⊎ ((s ≡ 1) × (i ≡ (1 + first) + k))
cond_forward first n s k i e = step (nat_eq s 0) (nat_eq s 1) refl refl e
  where
    step : (b c : Bool) → nat_eq s 0 ≡ b → nat_eq s 1 ≡ c
        → slice_get (if b then range 1 (min first (n - 1)) else
        (if c then range (1 + first) (n - (1 + first)) else [])) k ≡ Some i
        → ((s ≡ 0) × (i ≡ 1 + k) × (k < first)) ⊎ ((s ≡ 1) × (i ≡ (1 + first) + k))
    step true c z y e = let r = range_at 1 (min first (n - 1)) k i e in let a : i ≡ 1 + k = r.0 in
        let b : k < min first (n - 1) = r.1 in inl (grind arith, a, omega arith)
    step false true z y e = let r = range_at (1 + first) (n - (1 + first)) k i e in inr (grind arith, r.0)
    step false false z y e = cc

pub forwards_within : (c : KitOp) (first n s k i : ℕ) → slice_get (forwards_of c first n s) k ≡ Some i → i < n
forwards_within ops.Br first n s k i e = step (nat_eq s 0) e
  where
    step : (b : Bool) → slice_get (if b then range 0 n else []) k ≡ Some i → i < n
    step true e = let r = range_at 0 n k i e in let a : i ≡ 0 + k = r.0 in let b : k < n = r.1 in omega arith
    step false e = cc
forwards_within ops.CondBr first n s k i e = step (nat_eq s 0) (nat_eq s 1) e
  where
    step : (b c : Bool) → slice_get
        (if b then range 1 (min first (n - 1)) else
        (if c then range (1 + first) (n - (1 + first)) else [])) k ≡ Some i → i < n
    step true c e = let r = range_at 1 (min first (n - 1)) k i e in let a : i ≡ 1 + k = r.0 in
        let b : k < min first (n - 1) = r.1 in omega arith
    step false true e = let r = range_at (1 + first) (n - (1 + first)) k i e in let a : i ≡ (1 + first) + k = r.0 in
        let b : k < n - (1 + first) = r.1 in omega arith
    step false false e = cc
forwards_within c first n s k i e = cc

pub forwards_once : (c : KitOp) (first n s k u j i : ℕ) → slice_get (forwards_of c first n s) k ≡ Some i
    → slice_get (forwards_of c first n u) j ≡ Some i → (s ≡ u) × (k ≡ j)
forwards_once ops.Br first n s k u j i e f = let a = br_forward first n s k i e in
    let b = br_forward first n u j i f in (a.0 ∙ sym b.0, sym a.1 ∙ b.1)
forwards_once ops.CondBr first n s k u j i e f =
    ⊎_elim
    (λ a. ⊎_elim (λ b. let x : i ≡ 1 + k = a.1 in let y : i ≡ 1 + j = b.1 in (a.0 ∙ sym b.0, omega arith))
    (λ b. let x : i ≡ 1 + k = a.1 in let y : i ≡ (1 + first) + j = b.1 in let z : k < first = a.2 in
    absurd (omega arith)) (cond_forward first n u j i f))
    (λ a. ⊎_elim (λ b. let x : i ≡ (1 + first) + k = a.1 in let y : i ≡ 1 + j = b.1 in let z : j < first = b.2 in
    absurd (omega arith)) (λ b. let x : i ≡ (1 + first) + k = a.1 in let y : i ≡ (1 + first) + j = b.1 in
    (a.0 ∙ sym b.0, omega arith)) (cond_forward first n u j i f))
    (cond_forward first n s k i e)
forwards_once c first n s k u j i e f = cc

either_way : (p : ℕ → Bool) (b : Bool) (xs ys us vs : List ℕ) → xs ≡ renumber p us → ys ≡ renumber p vs
    → (if b then xs else ys) ≡ renumber p (if b then us else vs)
either_way p true xs ys us vs e f = e
either_way p false xs ys us vs e f = f

condition_stays : (first n : ℕ) (p : ℕ → Bool)
    → ((i : ℕ) → p i ≡ true → (s : ℕ) × (k : ℕ) × (slice_get (forwards_of ops.CondBr first n s) k ≡ Some i))
    → p 0 ≡ true → ⊥
condition_stays first n p h e =
    let w = h 0 e in
    ⊎_elim (λ a. let x : 0 ≡ 1 + w.1 = a.1 in omega arith) (λ a. let x : 0 ≡ (1 + first) + w.1 = a.1 in
    omega arith) (cond_forward first n w.0 w.1 0 w.2)

pub drop_forwards : (k : KitOp) (p : ℕ → Bool) (first n m s : ℕ) → m ≡ rank p n
    → ((i : ℕ) → p i ≡ true → (s : ℕ) × (j : ℕ) × (slice_get (forwards_of k first n s) j ≡ Some i))
    → forwards_of k (kept p 1 first) m s ≡ renumber p (forwards_of k first n s)
drop_forwards ops.Br p first n m s e h = either_way p (nat_eq s 0) (range 0 m) [] (range 0 n) []
    (all_forwarded p n m e) refl
drop_forwards ops.CondBr p first n m s e h =
    let one = first_kept p (condition_stays first n p h) in
    either_way p (nat_eq s 0) (range 1 (min (kept p 1 first) (m - 1)))
    (if nat_eq s 1 then range (1 + kept p 1 first) (m - (1 + kept p 1 first)) else [])
    (range 1 (min first (n - 1))) (if nat_eq s 1 then range (1 + first) (n - (1 + first)) else [])
    (first_edge p first n m one e)
    (either_way p (nat_eq s 1) (range (1 + kept p 1 first) (m - (1 + kept p 1 first))) []
    (range (1 + first) (n - (1 + first))) [] (second_edge p first n m one e) refl)
drop_forwards k p first n m s e h = refl
