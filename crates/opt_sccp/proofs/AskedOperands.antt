-- Whether operands are undetermined, and what is asked then.
use Rattle.std.proofs.Common.{◌≡◌, ℕ, zero, suc, List, [], ◌∷◌, map, Option, Some, None, slice_get, refl, ap, ◌∙◌}
use Rattle.ir_program.specs.declared.handles.Value.{Value}
use Rattle.ir_trees.specs.Stands.{by_handle}
use Rattle.opt_rows.specs.declared.known.Known.{Known}
use Rattle.opt_rows.specs.declared.known.Known.TheVariants.{Undetermined, One, Any}
use Rattle.opt_rows.specs.Known.{and_known, asked}
use Rattle.opt_trees.specs.Facts.{Facts, Asked}
use Rattle.opt_sccp.specs.Wanted.{HasUndetermined}

and_none : {A : Type 0} (x : Known A) → and_known x None ≡ None
and_none Undetermined = refl
and_none Any = refl
and_none (One a) = refl

module _ {A : Type 0} (k : Facts by_handle A) where
  undetermined_at : (vs : List Value) (i : ℕ) (v : Value) → slice_get vs i ≡ Some v → k.of v ≡ Undetermined → asked (map k.of vs) ≡ None
  undetermined_at [] i v at e = cc
  undetermined_at (w ∷ vs) zero v at e = let s : Some w ≡ Some v = at in let q : w ≡ v = cc in ap (λ x. and_known x (asked (map k.of vs))) (ap k.of q ∙ e)
  undetermined_at (w ∷ vs) (suc i) v at e = ap (λ q. and_known (k.of w) q) (undetermined_at vs i v at e) ∙ and_none (k.of w)

  pub asked_none : (vs : List Value) → HasUndetermined k vs → asked (map k.of vs) ≡ None
  asked_none vs u = undetermined_at vs u.index u.value u.stands u.lacks

  rest_none : (a : Option A) (q : Asked A) (x : Known A) → and_known x q ≡ None → (x ≡ Undetermined → ⊥) → q ≡ None
  rest_none a None x h ne = refl
  rest_none a (Some ys) Undetermined h ne = absurd (ne refl)
  rest_none a (Some ys) Any h ne = cc
  rest_none a (Some ys) (One b) h ne = cc

  further : (v : Value) (vs : List Value) → HasUndetermined k vs → HasUndetermined k (v ∷ vs)
  further v vs u = record { index = suc u.index; value = u.value; stands = u.stands; lacks = u.lacks }

  pub none_asked : (vs : List Value) → asked (map k.of vs) ≡ None → HasUndetermined k vs
  none_asked [] h = cc
  none_asked (v ∷ vs) h = by (k.of v) refl h (λ e. none_asked vs e)
    where
      by : (x : Known A) → k.of v ≡ x → and_known x (asked (map k.of vs)) ≡ None → (asked (map k.of vs) ≡ None → HasUndetermined k vs) → HasUndetermined k (v ∷ vs)
      by Undetermined e n again = record { index = zero; value = v; stands = refl; lacks = e }
      by Any e n again = further v vs (again (rest_none None (asked (map k.of vs)) Any n (λ s. cc)))
      by (One a) e n again = further v vs (again (rest_none None (asked (map k.of vs)) (One a) n (λ s. cc)))
