-- Marks that are taken away one by one.
use Rattle.std.proofs.Common.{◌≡◌, ◌≢◌, ⊎_elim, ℕ, zero, suc, ◌+◌, ◌<◌, Bool, true, List, [], ◌∷◌, length, Option, Some, slice_get, sym, ap, ◌∙◌, subst, arith}
use Rattle.std.specs.Prelude.{◌↔◌}
use Rattle.opt_chains.specs.ChainSteps.{IsFirst}
use Rattle.opt_chains.proofs.ChainRows.{same_number}
use Rattle.opt_chains.proofs.MergeLists.{none_listed}

-- marked are those that none of the numbers below i leads to
pub record AreUnmarked (next : List (Option ℕ)) (i : ℕ) (marks : List Bool) : Type 0 where
  pub len : length marks ≡ length next
  pub left : (f : ℕ) → f < length next → (slice_get marks f ≡ Some true) ↔ ((a : ℕ) → a < i → slice_get next a ≡ Some (Some f) → ⊥)

pub all_marked : (next : List (Option ℕ)) (marks : List Bool) → length marks ≡ length next → ((k : ℕ) → k < length next → slice_get marks k ≡ Some true) → AreUnmarked next 0 marks
all_marked next marks len marked = record { len = len; left = λ f l. (λ h a b. absurd (omega (arith, b)), λ h. marked f l) }

pub one_unmarked : (next : List (Option ℕ)) (i : ℕ) (marks new : List Bool) (to : Option ℕ) → AreUnmarked next i marks → slice_get next i ≡ Some to → length new ≡ length marks
    → ((k : ℕ) → k < length marks → (slice_get new k ≡ Some true) ↔ ((slice_get marks k ≡ Some true) × (to ≡ Some k → ⊥))) → AreUnmarked next (i + 1) new
one_unmarked next i marks new to has here len changed = record {
  len = len ∙ has.len;
  left = λ f l.
      let lm : f < length marks = subst (λ n. f < n) (sym has.len) l in (
        λ h a la leads.
            let both = (changed f lm).0 h in
            ⊎_elim
            (λ (e : a ≡ i). let s : Some to ≡ Some (Some f) = sym here ∙ ap (slice_get next) (sym e) ∙ leads in let q : to ≡ Some f = cc in both.1 q)
            (λ (ne : a ≢ i). (has.left f l).0 both.0 a (omega (arith, la, ne)) leads)
            (same_number a i),
        λ none. (changed f lm).1 (
          (has.left f l).1 (λ a la leads. none a (omega (arith, la)) leads),
          λ e. none i (omega arith) (here ∙ ap Some e),
        ),
      );
}

pub firsts_left : (next : List (Option ℕ)) (marks : List Bool) → AreUnmarked next (length next) marks → (f : ℕ) → f < length next → (slice_get marks f ≡ Some true) ↔ IsFirst next f
firsts_left next marks has f l = (
  λ h a leads. (has.left f l).0 h a (in_length next a (Some f) leads) leads,
  λ first. (has.left f l).1 (λ a la leads. first a leads),
) where
  in_length : {X : Type 0} (xs : List X) (k : ℕ) (x : X) → slice_get xs k ≡ Some x → k < length xs
  in_length [] k x h = absurd (none_listed k x h)
  in_length (y ∷ xs) zero x h = omega arith
  in_length (y ∷ xs) (suc k) x h = let l = in_length xs k x h in omega (arith, l)
