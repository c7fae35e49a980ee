-- Removal of dead values under any names is the removal by places.
use Rattle.std.proofs.Common.{◌≡◌, Bool, true, false, List, Option, Some, None, refl, sym, ap, ◌∙◌, subst}
use Rattle.std.specs.Prelude.{map}
use Rattle.kit_behaviour.specs.Machine.{Block, Fun}
use Rattle.kit_behaviour.specs.RemovedValues.{thin_block, thin}
use Rattle.kit_behaviour.specs.Renaming.{rename_block}
use Rattle.kit_behaviour.specs.Rules.{Rules}
use Rattle.kit_behaviour.specs.DeadValues.{HoldsDead, IsDeadSet, RemovesDeadValues}
use Rattle.kit_behaviour.specs.NamedPasses.{RemovesNamed}
use Rattle.kit_behaviour.specs.Places.{Place, same_place}
use Rattle.kit_behaviour.specs.Numbering.{place_of, place_fun, HasPlace, NamesAreDefined}
use Rattle.kit_behaviour.proofs.Behaviour.FrameLemmas.{IsSameness}
use Rattle.kit_behaviour.proofs.Numbering.DefinedNames.{scoped_defined}
use Rattle.kit_behaviour.proofs.Numbering.DefinedUnderNames.{defined_back}
use Rattle.kit_behaviour.proofs.Numbering.NumberingBehaviour.{apart}
use Rattle.kit_behaviour.proofs.Numbering.NumberingRules.{name_at}
use Rattle.kit_behaviour.proofs.Numbering.PlaceEquality.{place_law}
use Rattle.kit_behaviour.proofs.ControlFlow.NamedCommuting.{blocks_thinned}
use Rattle.kit_behaviour.proofs.ControlFlow.NamedMerging.{named_back, home, all_named}
use Rattle.kit_behaviour.proofs.ControlFlow.NamedPlacing.{AreNamed, thinned_named, placed_on}
use Rattle.kit_behaviour.proofs.DeadCode.DeadByPlace.{holds_there, holds_back}
use Rattle.kit_behaviour.proofs.DeadCode.DeadMayGo.{dead_may_go}
use Rattle.kit_behaviour.proofs.DeadCode.RemovalScopes.{thin_scoped}

module _ {V : Type 0} (same : V → V → Bool) (law : IsSameness same) (f : Fun V) (defined : NamesAreDefined same (Some f))
    (rules : Rules (place_fun same (Some f))) (dead : V → Bool) (is : IsDeadSet same (Some f) dead) where
  abbrev F : Option (Fun V)
  F = Some f

  abbrev P : Option (Fun Place)
  P = place_fun same F

  abbrev r : V → Place
  r = place_of same f

  abbrev H : V → Type 0
  H = HasPlace same F

  -- the places of dead values

  abbrev of_name : Option V → Bool
  of_name None = false
  of_name (Some x) = dead x

  abbrev set : Place → Bool
  set a = of_name (name_at F a)

  set_same : (x : V) → H x → set (r x) ≡ dead x
  set_same x h = ap of_name (named_back same law f defined rules x h)

  found : (e : Place → Bool) → HoldsDead same_place P e → (a : Place) → set a ≡ true → e a ≡ true
  found e holds a s = by_name (name_at F a) refl s
    where
      by_name : (o : Option V) → name_at F a ≡ o → of_name o ≡ true → e a ≡ true
      by_name None q d = absurd (cc d)
      by_name (Some x) q d =
          ap e (sym (home same law f defined rules a x q))
          ∙ is.least (λ v. e (r v)) (holds_back same law f defined (λ v. e (r v)) e (λ v h. refl) holds) x d

  set_dead : IsDeadSet same_place P set
  set_dead = record {
    holds = holds_there same law f defined dead set set_same is.holds;
    least = found;
  }

  -- what is left

  abbrev G : List (Block V)
  G = map (thin_block F dead) f

  thinned_is : thin set P ≡ Some (map (rename_block r) G)
  thinned_is = ap Some (blocks_thinned r H dead set set_same f defined.arguments f defined.ops defined.arguments)

  left_named : AreNamed H (Some G)
  left_named = thinned_named H dead F (all_named same law f defined rules)

  stay_apart : (x y : V) → H x → H y → same_place (r x) (r y) ≡ same x y
  stay_apart x y a b = apart same law F x y a b

  pub removes : RemovesDeadValues P (place_fun same (Some G))
  removes = record {
    set = set;
    dead = set_dead;
    is = sym (ap (place_fun same_place) thinned_is ∙ placed_on same same_place r H stay_apart (Some G) left_named);
  }

  pub defined_left : NamesAreDefined same (Some G)
  defined_left =
      defined_back same same_place r H stay_apart G left_named
      (subst (NamesAreDefined same_place) thinned_is
      (scoped_defined same_place place_law (thin set P)
      (thin_scoped P set (dead_may_go same_place place_law P set set_dead) rules.terminated rules.sees rules.fits)))

module _ {V : Type 0} (same : V → V → Bool) (law : IsSameness same) where
  pub removes_by_place : (f g : Option (Fun V)) → NamesAreDefined same f → Rules (place_fun same f) →
      RemovesNamed same f g → RemovesDeadValues (place_fun same f) (place_fun same g)
  removes_by_place None g defined rules m = record {
    set = λ a. false;
    dead = record { holds = λ a h. absurd (cc h); least = λ e h a s. absurd (cc s) };
    is = ap (place_fun same) m.is;
  }
  removes_by_place (Some f) g defined rules m =
      subst (λ z. RemovesDeadValues (place_fun same (Some f)) (place_fun same z)) (sym m.is)
      (removes same law f defined rules m.set m.dead)

  pub removal_defines : (f g : Option (Fun V)) → NamesAreDefined same f → Rules (place_fun same f) →
      RemovesNamed same f g → NamesAreDefined same g
  removal_defines None g defined rules m = subst (NamesAreDefined same) (sym m.is) defined
  removal_defines (Some f) g defined rules m =
      subst (NamesAreDefined same) (sym m.is) (defined_left same law f defined rules m.set m.dead)
