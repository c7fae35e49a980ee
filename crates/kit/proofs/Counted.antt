-- How many indices stay, one by one.
use Rattle.std.proofs.Common.{◌≡◌, ◌⊎◌, ⊎_elim, inl, inr, ℕ, zero, suc, ◌+◌, ◌-◌, ◌≤◌, Bool, true, false, List, []}
use Rattle.std.proofs.Common.{◌∷◌, ◌++◌, length, refl, sym, ap, ◌∙◌, arith}
use Rattle.std.specs.Prelude.{if◌then◌else◌, min}
use Rattle.opt_dialect.specs.Masks.{marked}
use Rattle.kit.specs.Dropped.{kept}
use Rattle.kit.specs.Meaning.{range}

range_suc : (s n : ℕ) → range s (suc n) ≡ range s n ++ (s + n) ∷ []
range_suc s zero = let e : s ≡ s + 0 = omega arith in ap (λ x. x ∷ []) e
range_suc s (suc n) = let e : suc s + n ≡ s + suc n = omega arith in
    ap (λ xs. s ∷ xs) (range_suc (suc s) n ∙ ap (λ x. range (suc s) n ++ x ∷ []) e)

pub range_end : (s n : ℕ) → range s (n + 1) ≡ range s n ++ (s + n) ∷ []
range_end s n = let e : n + 1 ≡ suc n = omega arith in ap (range s) e ∙ range_suc s n

-- what stays of so many indices and of those behind them
kept_split : (p : ℕ → Bool) (s n m : ℕ) → kept p s (n + m) ≡ kept p s n + kept p (s + n) m
kept_split p s zero m =
    let e : 0 + m ≡ m = omega arith in
    let f : s ≡ s + 0 = omega arith in
    let g : kept p s m ≡ 0 + kept p s m = omega arith in
    ap (kept p s) e ∙ (g ∙ ap (λ z. 0 + kept p z m) f)
kept_split p s (suc n) m =
    let e : suc n + m ≡ suc (n + m) = omega arith in
    let f : suc s + n ≡ s + suc n = omega arith in
    ap (kept p s) e ∙ step (p s) (kept p (suc s) (n + m)) (kept p (suc s) n) (kept p (s + suc n) m)
    (kept_split p (suc s) n m ∙ ap (λ z. kept p (suc s) n + kept p z m) f)
  where
    step : (b : Bool) (x y z : ℕ) → x ≡ y + z → (if b then x else suc x) ≡ (if b then y else suc y) + z
    step true x y z e = e
    step false x y z e = omega arith

one_kept : (p : ℕ → Bool) (s : ℕ) → kept p s 1 + (if p s then 1 else 0) ≡ 1
one_kept p s = step (p s)
  where
    step : (b : Bool) → (if b then 0 else suc 0) + (if b then 1 else 0) ≡ 1
    step true = refl
    step false = refl

-- one index more stays, or goes
pub kept_end : (p : ℕ → Bool) (s n : ℕ) → kept p s (n + 1) + (if p (s + n) then 1 else 0) ≡ kept p s n + 1
kept_end p s n =
    let a : kept p s (n + 1) ≡ kept p s n + kept p (s + n) 1 = kept_split p s n 1 in
    let b : kept p (s + n) 1 + (if p (s + n) then 1 else 0) ≡ 1 = one_kept p (s + n) in
    omega arith

unmarked_past : (marks : List Bool) (i : ℕ) → length marks ≤ i → marked marks i ≡ false
unmarked_past [] i h = refl
unmarked_past (m ∷ marks) zero h = absurd (omega arith)
unmarked_past (m ∷ marks) (suc i) h = unmarked_past marks i (omega arith)

all_past : (marks : List Bool) (s n : ℕ) → length marks ≤ s → kept (marked marks) s n ≡ n
all_past marks s zero h = refl
all_past marks s (suc n) h =
    ap (λ (b : Bool). if b then kept (marked marks) (suc s) n else suc (kept (marked marks) (suc s) n))
    (unmarked_past marks s h)
    ∙ ap suc (all_past marks (suc s) n (omega arith))

-- past the marks all stay
pub kept_whole : (marks : List Bool) (s w n : ℕ) → w ≤ n → (w ≡ n) ⊎ (length marks ≤ s + w)
    → kept (marked marks) s n ≡ kept (marked marks) s w + (n - w)
kept_whole marks s w n h =
    ⊎_elim
    (λ e. let f : n - w ≡ 0 = omega arith in
    let g : kept (marked marks) s n ≡ kept (marked marks) s w = ap (kept (marked marks) s) (sym e) in omega arith)
    (λ past.
    let e : w + (n - w) ≡ n = omega arith in
    ap (kept (marked marks) s) (sym e) ∙ (kept_split (marked marks) s w (n - w)
    ∙ ap (λ z. kept (marked marks) s w + z) (all_past marks (s + w) (n - w) past)))

-- the least of a count and of what is left of the marks is the count, or reaches their end
pub within_or_past : (n l s w : ℕ) → w ≡ min n (l - s) → (w ≡ n) ⊎ (l ≤ s + w)
within_or_past n l s w e = ⊎_elim (λ (h : n ≤ l - s). inl (omega arith))
    (λ (h : l - s ≤ n). inr (omega arith)) (order n (l - s))
  where
    order : (a b : ℕ) → (a ≤ b) ⊎ (b ≤ a)
    order a b = grind arith

-- what is left of a count is what stays, where the rest was counted
pub all_in : (marks : List Bool) (s i w n gone : ℕ) → i ≡ w → w ≤ n → (w ≡ n) ⊎ (length marks ≤ s + w)
    → kept (marked marks) s i + gone ≡ i → n - gone ≡ kept (marked marks) s n
all_in marks s i w n gone e h past f =
    let whole : kept (marked marks) s n ≡ kept (marked marks) s w + (n - w) = kept_whole marks s w n h past in
    let same : kept (marked marks) s i ≡ kept (marked marks) s w = ap (kept (marked marks) s) e in
    omega arith
