-- Numbers that fit widths.
use Rattle.std.proofs.Common.{◌≡◌, ℕ, ◌+◌, ◌<◌, ◌≤◌, List, length, get_or, Some, slice_get, sym, ap, ◌∙◌, subst, ◌^◌, lit<, ⊎_elim, arith}
use Rattle.std.proofs.Math.Nat.{pow-le-pow_right}
use Rattle.std.proofs.lemmas.Bool.{cases_lt}
use Rattle.std.proofs.lemmas.Option.{same_Some, slice_get-get_or}

-- one more of two rows
pub next_pair : {T : Type 0} (P : ℕ → T → Type 0) (xs : List ℕ) (ts : List T) (i : ℕ) → i < length xs
    → ((k x : ℕ) (t : T) → k < i → slice_get xs k ≡ Some x → slice_get ts k ≡ Some t → P x t)
    → ((t : T) → slice_get ts i ≡ Some t → P (get_or xs i 0) t) → (k x : ℕ) (t : T) → k < i + 1
    → slice_get xs k ≡ Some x → slice_get ts k ≡ Some t → P x t
next_pair P xs ts i l before here k x t h e f = ⊎_elim
    (λ (b : k < i). before k x t b e f)
    (λ (b : i ≤ k).
    let n : k ≡ i = omega (arith, h, b) in
    let s : get_or xs i 0 ≡ x = same_Some (get_or xs i 0) x
    (sym (slice_get-get_or xs i 0 l) ∙ ap (slice_get xs) (sym n) ∙ e) in
    subst (λ (y : ℕ). P y t) s (here t (ap (slice_get ts) (sym n) ∙ f)))
    (cases_lt k i)

pub within_any : (x w : ℕ) → x < 2 ^ 64 → 64 ≤ w → x < 2 ^ w
within_any x w h k = let e = pow-le-pow_right {n = 2} (lit< tt) k in omega (arith, e)
