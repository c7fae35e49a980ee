-- After the pass on control flow under any names each name is defined.
use Rattle.std.proofs.Common.{◌≡◌, ◌⊎◌, ℕ, Bool, [], Option, Some, None, sym, ap, subst}
use Rattle.std.specs.Prelude.{not}
use Rattle.kit_behaviour.specs.Machine.{Fun, arguments_in}
use Rattle.kit_behaviour.specs.Numbering.{place_of, place_fun, HasPlace, NamesAreDefined}
use Rattle.kit_behaviour.specs.Places.{Place, same_place}
use Rattle.kit_behaviour.specs.Rules.{Rules}
use Rattle.kit_behaviour.specs.SimplifiedBlocks.{Reached, join_fun, branched, Merges}
use Rattle.kit_behaviour.specs.SimplifiedNames.{SimplifiesNamed}
use Rattle.kit_behaviour.proofs.Behaviour.FrameLemmas.{IsSameness}
use Rattle.kit_behaviour.proofs.Numbering.DefinedUnderNames.{defined_back}
use Rattle.kit_behaviour.proofs.Numbering.NumberingBehaviour.{apart}
use Rattle.kit_behaviour.proofs.Numbering.PlaceEquality.{place_law}
use Rattle.kit_behaviour.proofs.ControlFlow.ChainLemmas.{entry_free}
use Rattle.kit_behaviour.proofs.ControlFlow.JoiningPremises.{drop_stays}
use Rattle.kit_behaviour.proofs.ControlFlow.KeptBlocks.{keep_sees}
use Rattle.kit_behaviour.proofs.ControlFlow.NamedMerging.{G4, left_named, old_merged_is, old_by_place}
use Rattle.kit_behaviour.proofs.ControlFlow.NamedSimplifying.{reached_by_place, placed_is, defined_left, rules_left}
use Rattle.kit_behaviour.proofs.ControlFlow.PlacesJoined.{replaced_args, merged, IsMerged}
use Rattle.kit_behaviour.proofs.ControlFlow.ScopesAfterJoining.{sees_defined, sees_three}
use Rattle.kit_behaviour.proofs.ControlFlow.SimplifyBehaviour.{kept_lives}

-- each block with arguments is reached
abbrev Lives : Option (Fun Place) → Type 0
Lives f = (b : ℕ) → (arguments_in f b ≡ []) ⊎ Reached f b

-- by places

merged_defined : (f g : Option (Fun Place)) → Rules f → Lives f → (m : IsMerged f g) →
    NamesAreDefined same_place (merged m.taken m.names m.most f)
merged_defined f g rules lives m =
    let free = entry_free f m.taken m.is_taken in
    sees_defined same_place place_law (merged m.taken m.names m.most f)
    (keep_sees (λ b. not (m.taken b)) (join_fun m.taken m.most (replaced_args m.taken m.names f)) (ap not free)
    (λ b e. drop_stays f rules m.taken m.is_taken m.names m.follows lives m.most m.long b e)
    (sees_three f rules m.taken m.is_taken m.names m.follows lives m.most m.long free))

module _ {V : Type 0} (same : V → V → Bool) (law : IsSameness same) where
  joined_defined : (f : Fun V) (defined : NamesAreDefined same (Some f)) (rules : Rules (place_fun same (Some f))) →
      Lives (place_fun same (Some f)) → (g : Option (Fun V)) → Merges (Some f) g → NamesAreDefined same g
  joined_defined f defined rules lives g m =
      let is = old_merged_is same law f defined rules g m in
      let there = merged_defined (place_fun same (Some f)) (place_fun same g) rules lives
      (old_by_place same law f defined rules g m) in
      subst (NamesAreDefined same) (sym m.is)
      (defined_back same same_place (place_of same f) (HasPlace same (Some f))
      (λ x y a b. apart same law (Some f) x y a b) (G4 same law f defined rules g m)
      (left_named same law f defined rules g m) (subst (NamesAreDefined same_place) is there))

  pub simplified_defined : (f g : Option (Fun V)) → NamesAreDefined same f → Rules (place_fun same f) →
      SimplifiesNamed f g → NamesAreDefined same g
  simplified_defined None g defined rules m = subst (NamesAreDefined same) (sym m.merges.is) defined
  simplified_defined (Some f) g defined rules m =
      let reached = reached_by_place same law f defined rules m.constants m.are m.reach m.reached in
      let lives = subst Lives (placed_is same law f defined rules m.constants m.are m.reach m.reached)
      (kept_lives (branched (place_fun same (Some f))) m.reach reached) in
      joined_defined _
      (defined_left same law f defined rules m.constants m.are m.reach m.reached)
      (rules_left same law f defined rules m.constants m.are m.reach m.reached) lives g m.merges
