-- After the removal nothing is dead, said of the places again.
use Rattle.std.proofs.Common.{ℕ, Bool, false, List, Option, Some, None, refl, sym, subst}
use Rattle.kit_behaviour.specs.Machine.{Fun, FunctionsByPath}
use Rattle.kit_behaviour.specs.RemovedValues.{thin}
use Rattle.kit_behaviour.specs.DeadValues.{HoldsDead, IsDceOfFunctions}
use Rattle.kit_behaviour.specs.Rules.{Rules}
use Rattle.kit_behaviour.specs.Numbering.{place_fun, NamesAreDefined}
use Rattle.kit_behaviour.specs.Places.{Place, same_place}
use Rattle.kit_behaviour.proofs.Behaviour.FrameLemmas.{IsSameness}
use Rattle.kit_behaviour.proofs.Numbering.PlaceEquality.{place_law}
use Rattle.kit_behaviour.proofs.Numbering.DefinedNames.{scoped_defined}
use Rattle.kit_behaviour.proofs.DeadCode.DeadByPlace.{holds_there}
use Rattle.kit_behaviour.proofs.DeadCode.DeadMayGo.{dead_may_go}
use Rattle.kit_behaviour.proofs.DeadCode.RemovalScopes.{thin_scoped}
use Rattle.kit_behaviour.proofs.DeadCode.NoneDeadByName.{none_dead}

abbrev none : {V : Type 0} → V → Bool
none v = false

module _ {V : Type 0} (same : V → V → Bool) (law : IsSameness same) where
  pub none_after : (f : Option (Fun V)) → NamesAreDefined same f → HoldsDead same f none →
      HoldsDead same_place (place_fun same f) none
  none_after None d h a e = absurd (cc e)
  none_after (Some g) d h a e = holds_there same law g d none none (λ x n. refl) h a e

-- nothing is dead in what the pass leaves
pub dce_none : (p q : FunctionsByPath Place) → ((path : List ℕ) → Rules (p path)) → IsDceOfFunctions p q → (path : List ℕ) →
    HoldsDead same_place (q path) (λ v. false)
dce_none p q rules is path =
    let f = p path in
    let d = is.set path in
    let goes = dead_may_go same_place place_law f d (is.dead path) in
    let sees = thin_scoped f d goes (rules path).terminated (rules path).sees (rules path).fits in
    subst (λ x. HoldsDead same_place x none) (sym (is.is path))
    (none_after same_place place_law (thin d f) (scoped_defined same_place place_law (thin d f) sees)
    (none_dead same_place place_law f d (is.dead path)))
