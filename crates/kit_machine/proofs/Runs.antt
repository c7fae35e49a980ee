-- Runs that are over, or that stay where they are.
use Rattle.std.proofs.Common.{◌≡◌, ℕ, zero, suc, ◌-◌, ◌<◌, refl, sym, ap, ◌∙◌, arith, nat_eq}
use Rattle.kit_flat.specs.Machine.{Code, MachineState, step, run}

module _ (p : Code ℕ ℕ ℕ) where
  pub still : (k : ℕ) (s : MachineState ℕ ℕ ℕ) → step nat_eq p s ≡ s → run nat_eq p k s ≡ s
  still zero s e = refl
  still (suc k) s e = ap (run nat_eq p k) e ∙ still k s e

  -- one step off what is left
  pub one_less : (n : ℕ) (s t : MachineState ℕ ℕ ℕ) → 0 < n → step nat_eq p s ≡ t → run nat_eq p n s ≡ run nat_eq p (n - 1) t
  one_less zero s t h e = absurd (omega arith)
  one_less (suc k) s t h e =
      let d : suc k - 1 ≡ k = omega arith in
      ap (run nat_eq p k) e ∙ ap (λ n. run nat_eq p n t) (sym d)
