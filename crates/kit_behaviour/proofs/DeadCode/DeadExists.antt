-- Each function has a least set of dead values.
use Rattle.std.proofs.Common.{◌≡◌, ℕ, zero, suc, Bool, true, false, List, [], Option, Some, None, refl, sym, ap, ◌∙◌}
use Rattle.std.specs.Prelude.{if◌then◌else◌, not, ◌&&◌}
use Rattle.kit_behaviour.specs.Machine.{Fun, FunctionsByPath, arguments_in}
use Rattle.kit_behaviour.specs.Scopes.{In, is_in}
use Rattle.kit_behaviour.specs.RemovedValues.{thinned}
use Rattle.kit_behaviour.specs.DeadValues.{candidates, may_die, all_uses_dead, HoldsDead, IsDeadSet, IsDceOfFunctions}
use Rattle.kit_behaviour.specs.Numbering.{placed}
use Rattle.kit_behaviour.specs.Places.{Place, same_place}
use Rattle.kit_behaviour.proofs.Behaviour.FiniteLists.{is_in_in}
use Rattle.kit_behaviour.proofs.Behaviour.FrameLemmas.{IsSameness}
use Rattle.kit_behaviour.proofs.Behaviour.Iteration.{after_steps, still_after}
use Rattle.kit_behaviour.proofs.Numbering.PlaceEquality.{place_law}
use Rattle.kit_behaviour.proofs.Propagation.FactsAfterwards.{and_true, and_first, and_second}
use Rattle.kit_behaviour.proofs.DeadCode.DeadMayGo.{all_more}

module _ {V : Type 0} (same : V → V → Bool) (law : IsSameness same) where
  may_be : Option (Fun V) → List V
  may_be None = []
  may_be (Some f) = candidates f

  candidate : (f : Option (Fun V)) (v : V) → may_die same f v ≡ true → In v (may_be f)
  unfolding may_be
  candidate None v e = absurd (cc e)
  candidate (Some f) v e = is_in_in same law v (candidates f) (and_second (not (is_in same v (arguments_in (Some f) 0))) (is_in same v (candidates f)) e)

  module _ (f : Option (Fun V)) where
    -- those of the set, and those whose uses are all of the set
    abbrev step : (V → Bool) → V → Bool
    step d v = if d v then true else may_die same f v && all_uses_dead same f d v

    grows : (d : V → Bool) (v : V) → d v ≡ true → step d v ≡ true
    grows d v e = ap (λ b. if b then true else may_die same f v && all_uses_dead same f d v) e

    new_dead : (d : V → Bool) (v : V) → step d v ≡ true → d v ≡ false → may_die same f v && all_uses_dead same f d v ≡ true
    new_dead d v e n = sym (ap (λ b. if b then true else may_die same f v && all_uses_dead same f d v) n) ∙ e

    within : (d : V → Bool) (v : V) → step d v ≡ true → d v ≡ false → In v (may_be f)
    within d v e n = candidate f v (and_first (may_die same f v) (all_uses_dead same f d v) (new_dead d v e n))

    abbrev none : V → Bool
    none v = false

    abbrev at : ℕ → V → Bool
    at = after_steps (may_be f) step grows within none

    -- what is found is in each set that holds what it must
    found : (e : V → Bool) → HoldsDead same f e → (n : ℕ) (v : V) → at n v ≡ true → e v ≡ true
    found e h zero v d = absurd (cc d)
    found e h (suc n) v d = by_test (at n v) refl (found e h n)
      where
        by_test : (b : Bool) → at n v ≡ b → ((w : V) → at n w ≡ true → e w ≡ true) → e v ≡ true
        by_test true g ih = ih v g
        by_test false g ih =
            let w = new_dead (at n) v d g in
            h v (and_true _ _ (and_first (may_die same f v) (all_uses_dead same f (at n) v) w) (all_more same f (at n) e ih v (and_second (may_die same f v) (all_uses_dead same f (at n) v) w)))

    held : (d : V → Bool) (v : V) → may_die same f v && all_uses_dead same f d v ≡ true → step d v ≡ true
    held d v h = by_test (d v) h
      where
        by_test : (b : Bool) → may_die same f v && all_uses_dead same f d v ≡ true → (if b then true else may_die same f v && all_uses_dead same f d v) ≡ true
        by_test true h = refl
        by_test false h = h

    pub dead_exists : (d : V → Bool) × IsDeadSet same f d
    dead_exists =
        let s = still_after (may_be f) step grows within none in
        (at s.0, record { holds = λ v h. s.1 v (held (at s.0) v h); least = λ e h v g. found e h s.0 v g })

pub dce_exists : (p : FunctionsByPath Place) → (q : FunctionsByPath Place) × IsDceOfFunctions p q
dce_exists p =
    let d = λ (path : List ℕ). dead_exists same_place place_law (p path) in
    (placed same_place (thinned (λ path. (d path).0) p), record { set = λ path. (d path).0; dead = λ path. (d path).1; is = λ path. refl })
