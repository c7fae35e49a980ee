-- The pass on control flow on functions that keep the rules: it has a result, and is the pass that the proofs speak of.
use Rattle.std.proofs.Common.{◌≡◌, ◌⊎◌, ⊎_elim, ℕ, suc, Bool, true, false, List, [], ◌∷◌, Option, Some, None, refl, sym}
use Rattle.std.proofs.Common.{ap, ◌∙◌, subst}
use Rattle.std.specs.Prelude.{slice_get, if◌then◌else◌, unwrap_or}
use Rattle.kit_behaviour.specs.Machine.{Fun, FunctionsByPath, arguments_in, size}
use Rattle.kit_behaviour.specs.Numbering.{place_of, place_fun, HasPlace, NamesAreDefined}
use Rattle.kit_behaviour.specs.Places.{Place, Arg, Res, same_place}
use Rattle.kit_behaviour.specs.Rules.{Rules}
use Rattle.kit_behaviour.specs.Scopes.{In}
use Rattle.kit_behaviour.specs.SimplifiedBlocks.{constants, Reached, keep, edges_in, IsJoinedSet, forwarded_to, IsGivenInChain}
use Rattle.kit_behaviour.specs.SimplifiedBlocks.{StandsForInChain, itself, passed_on, IsLaterArgument, merged, IsMerged}
use Rattle.kit_behaviour.specs.SimplifiedBlocks.{branched, SimplifiesFunction, IsSimplifyOfFunctions}
use Rattle.kit_behaviour.proofs.ControlFlow.PlacesJoined as old
use Rattle.kit_behaviour.proofs.ControlFlow.PlacesJoined.{forward, Follows, stop, more, taken_arg}
use Rattle.kit_behaviour.proofs.Numbering.NumberingRules.{name_at, arg_name, name_arg, slice_in}
use Rattle.kit_behaviour.proofs.Numbering.NumberingStays.{numbering_stays}
use Rattle.kit_behaviour.proofs.Numbering.PlaceEquality.{place_law}
use Rattle.kit_behaviour.proofs.ControlFlow.DecisionRules.{decide_rules}
use Rattle.kit_behaviour.proofs.ControlFlow.FollowingEnds.{follow_ends}
use Rattle.kit_behaviour.proofs.ControlFlow.KeptBlocks.{rules_home}
use Rattle.kit_behaviour.proofs.ControlFlow.NamedMerging.{some_is, no_some, partner, named_at, named_back, lengths}
use Rattle.kit_behaviour.proofs.ControlFlow.NamedMerging.{given_named, as_old}
use Rattle.kit_behaviour.proofs.ControlFlow.ScopesAfterJoining.{sees_defined}
use Rattle.kit_behaviour.proofs.ControlFlow.SimplifyBehaviour.{depth_few, kept_lives, kept_rules}
use Rattle.kit_behaviour.proofs.ControlFlow.SimplifyExists.{reached_exists, taken_exists}

-- 1. the pass that the proofs speak of

pub as_old_pass : (f g : Option (Fun Place)) → Rules f → SimplifiesFunction f g → old.Simplifies f g
as_old_pass f g rules m = record {
  reach = m.reach;
  reached = m.reached;
  merges = as_old (place_fun same_place (keep m.reach (branched f))) g
      (kept_rules (branched f) m.reach m.reached (decide_rules (constants f) f rules)) m.merges;
}

pub as_old_all : (p q : FunctionsByPath Place) → ((path : List ℕ) → Rules (p path)) → IsSimplifyOfFunctions p q → old.IsSimplify p q
as_old_all p q rules is = record { each = λ path. as_old_pass (p path) (q path) (rules path) (is.each path) }

-- 2. what an argument stands for, by its name

module _ (f : Fun Place) (rules : Rules (Some f)) (j : ℕ → Bool) (is_taken : IsJoinedSet (Some f) j) where
  abbrev F : Option (Fun Place)
  F = Some f

  defined : NamesAreDefined same_place F
  defined = sees_defined same_place place_law F rules.sees

  placed : Rules (place_fun same_place F)
  placed = subst Rules (sym (numbering_stays F rules)) rules

  home : (a v : Place) → name_at F a ≡ Some v → v ≡ a
  home a v e = rules_home F rules a v e

  -- what is forwarded is at its place
  given_home : (t i : ℕ) (g : Place) → j t ≡ true → slice_get (forwarded_to t (edges_in F)) i ≡ Some g →
      name_at F g ≡ Some g
  given_home t i g e q =
      let h = named_at (HasPlace same_place F) (forwarded_to t (edges_in F))
      (given_named same_place place_law f defined placed j is_taken t e) i g q in
      let n = named_back same_place place_law f defined placed g h in
      ap (name_at F) (home (place_of same_place f g) g n) ∙ n

  stands : (v u : Place) → Follows (forward j F) v u → name_at F v ≡ Some v → StandsForInChain j F v u
  stands v u (stop a b e q) n = itself a b (λ w g. nothing w g) q
    where
      nothing : (w : Place) → IsGivenInChain j F a w → ⊥
      nothing w g =
          let z : a ≡ Arg g.block g.place = home (Arg g.block g.place) a
          (name_arg same_place place_law F g.block g.place a g.takes) in
          let some = ap (λ b. if b then Some (unwrap_or (slice_get (forwarded_to g.block (edges_in F)) g.place)
          (Arg 0 0)) else None) g.later in
          no_some (unwrap_or (slice_get (forwarded_to g.block (edges_in F)) g.place) (Arg 0 0))
          (sym e ∙ (ap (forward j F) z ∙ some))
  stands v u (more (Res b o i) w x e m) n = absurd (no_some w e)
  stands v u (more (Arg t i) w x e m) n = by_test (j t) refl (λ q. stands w x m q)
    where
      by_test : (b : Bool) → j t ≡ b → (name_at F w ≡ Some w → StandsForInChain j F w x) → StandsForInChain j F (Arg t i) x
      by_test false z ih = absurd (no_some w (sym (ap (λ b. if b then Some
          (unwrap_or (slice_get (forwarded_to t (edges_in F)) i) (Arg 0 0)) else None) z) ∙ e))
      by_test true z ih =
          let takes = arg_name F t i (Arg t i) n in
          let g = partner (place_of same_place f) (arguments_in F t) (forwarded_to t (edges_in F))
          (lengths same_place place_law f defined placed j is_taken t z) i (Arg t i) takes in
          let is : g.0 ≡ w =
          some_is g.0 w
          (sym (ap (λ o. Some (unwrap_or o (Arg 0 0))) g.1)
          ∙ (sym (ap (λ b. if b then Some (unwrap_or (slice_get (forwarded_to t (edges_in F)) i) (Arg 0 0)) else None)
          z) ∙ e)) in
          let gives = g.1 ∙ ap Some is in
          passed_on (Arg t i) w x (record { block = t; later = z; place = i; takes = takes; gives = gives })
          (ih (given_home t i w z gives))

  module _ (ends : (v : Place) → (u : Place) × Follows (forward j F) v u) where
    abbrev stand_by : Place → Option Place → Place
    stand_by v None = v
    stand_by v (Some x) = (ends v).0

    abbrev stand : Place → Place
    stand v = stand_by v (name_at F v)

    there : (v x : Place) → name_at F v ≡ Some x → name_at F v ≡ Some v
    there v x e = e ∙ ap Some (home v x e)

    stand_is : (v : Place) → StandsForInChain j F v (stand v)
    stand_is v = by_name (name_at F v) refl
      where
        by_name : (o : Option Place) → name_at F v ≡ o → StandsForInChain j F v (stand_by v (name_at F v))
        by_name None e =
            subst (StandsForInChain j F v) (sym (ap (stand_by v) e))
            (itself v v (λ w g.
            let q = name_arg same_place place_law F g.block g.place v g.takes in
            no_some v (sym e ∙ (ap (name_at F) (home (Arg g.block g.place) v q) ∙ q))) refl)
        by_name (Some x) e = subst (StandsForInChain j F v) (sym (ap (stand_by v) e))
            (stands v (ends v).0 (ends v).1 (there v x e))

  abbrev gone_by : Place → Option Place → Bool
  gone_by v None = false
  gone_by v (Some x) = taken_arg j v

  abbrev gone : Place → Bool
  gone v = gone_by v (name_at F v)

  gone_there : (v : Place) → gone v ≡ true → IsLaterArgument j F v
  gone_there v q = by_name (name_at F v) refl q
    where
      by_place : (v x : Place) → name_at F v ≡ Some x → taken_arg j v ≡ true → IsLaterArgument j F v
      by_place (Arg t i) x e w = (
        t,
        w,
        slice_in (Arg t i) (arguments_in F t) i (arg_name F t i (Arg t i) (there_is (Arg t i) x e)),
      )
        where
          there_is : (v x : Place) → name_at F v ≡ Some x → name_at F v ≡ Some v
          there_is v x e = e ∙ ap Some (home v x e)
      by_place (Res b o i) x e w = absurd (cc w)

      by_name : (o : Option Place) → name_at F v ≡ o → gone_by v o ≡ true → IsLaterArgument j F v
      by_name None e w = absurd (cc w)
      by_name (Some x) e w = by_place v x e w

  gone_back : (v : Place) → IsLaterArgument j F v → gone v ≡ true
  gone_back v l =
      let i = slice_of v (arguments_in F l.0) l.2 in
      let q = name_arg same_place place_law F l.0 i.0 v i.1 in
      let z : v ≡ Arg l.0 i.0 = home (Arg l.0 i.0) v q in
      ap (gone_by v) (ap (name_at F) z ∙ q) ∙ (ap (taken_arg j) z ∙ l.1)
    where
      slice_of : (v : Place) (xs : List Place) → In v xs → (i : ℕ) × (slice_get xs i ≡ Some v)
      slice_of v [] h = absurd h
      slice_of v (x ∷ xs) h = ⊎_elim (λ e. (0, ap Some (sym e))) (λ k. let m = slice_of v xs k in (suc m.0, m.1)) h

-- 3. the pass has a result

pub merged_exists : (f : Option (Fun Place)) → Rules f → ((b : ℕ) → (arguments_in f b ≡ []) ⊎ Reached f b) →
    (g : Option (Fun Place)) × IsMerged f g
merged_exists None rules lives =
    let j = taken_exists None in (
      None,
      record {
        left = None;
        merges = record {
          later = j.0;
          is_later = j.1;
          gone = λ v. false;
          is_gone = λ v. (λ q. absurd (cc q), λ l. absurd l.2);
          names = λ v. v;
          follows = λ v. itself v v (λ w g. no_some v g.takes) refl;
          most = 0;
          long = λ b n d. depth_few None j.0 j.1 b n d;
          is = refl;
        };
        is = refl;
      },
    )
merged_exists (Some f) rules lives =
    let j = taken_exists (Some f) in
    let ends = λ (v : Place). follow_ends (Some f) rules j.0 j.1 lives v in
    let names = stand f rules j.0 j.1 ends in
    let left = merged j.0 (gone f rules j.0 j.1) names (size (Some f)) (Some f) in (
      place_fun same_place left,
      record {
        left = left;
        merges = record {
          later = j.0;
          is_later = j.1;
          gone = gone f rules j.0 j.1;
          is_gone = λ v. (gone_there f rules j.0 j.1 v, gone_back f rules j.0 j.1 v);
          names = names;
          follows = λ v. stand_is f rules j.0 j.1 ends v;
          most = size (Some f);
          long = λ b n d. depth_few (Some f) j.0 j.1 b n d;
          is = refl;
        };
        is = refl;
      },
    )

simplify_exists : (f : Option (Fun Place)) → Rules f → (g : Option (Fun Place)) × SimplifiesFunction f g
simplify_exists f rules =
    let decided = decide_rules (constants f) f rules in
    let r = reached_exists (branched f) decided in
    let m = merged_exists (place_fun same_place (keep r.0 (branched f))) (kept_rules (branched f) r.0 r.1 decided)
    (kept_lives (branched f) r.0 r.1) in
    (m.0, record { reach = r.0; reached = r.1; merges = m.1 })

pub simplify_all : (p : FunctionsByPath Place) → ((path : List ℕ) → Rules (p path)) → (q : FunctionsByPath Place) × IsSimplifyOfFunctions p q
simplify_all p rules = (
  λ path. (simplify_exists (p path) (rules path)).0,
  record { each = λ path. (simplify_exists (p path) (rules path)).1 },
)
