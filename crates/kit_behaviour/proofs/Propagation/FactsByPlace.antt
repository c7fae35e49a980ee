-- The most precise facts of what the pass leaves, values named by their places, are those of before.
use Rattle.std.proofs.Common.{◌≡◌, ◌⊎◌, ⊎_elim, inl, inr, ℕ, Bool, Option, Some, None, refl, sym, ap, ◌∙◌, subst}
use Rattle.std.specs.Prelude.{slice_get}
use Rattle.kit_behaviour.specs.Machine.{Fun, left_in, arguments_in}
use Rattle.kit_behaviour.specs.Facts.{FunctionFacts, AreMostPreciseFacts}
use Rattle.kit_behaviour.specs.Scopes.{In, all_defs}
use Rattle.kit_behaviour.specs.InsertedConstants.{OldOrNewName, Old, same_name, Made, put_args, put_ops, put_in, use_of}
use Rattle.kit_behaviour.specs.Rules.{Rules}
use Rattle.kit_behaviour.specs.ConstantPropagation.{Wants, made_of, with_facts, propagated, KeepsFunctionFacts}
use Rattle.kit_behaviour.specs.Numbering.{place_in, HasPlace, NamesAreDefined}
use Rattle.kit_behaviour.specs.Places.{Place, same_place}
use Rattle.kit_behaviour.proofs.Behaviour.FrameLemmas.{IsSameness}
use Rattle.kit_behaviour.proofs.Numbering.PlaceEquality.{place_law}
use Rattle.kit_behaviour.proofs.Numbering.NumberingBehaviour.{block_of, at_place, place_name}
use Rattle.kit_behaviour.proofs.Numbering.DefinedNames.{has_place, scoped_defined, all_defs_replaced}
use Rattle.kit_behaviour.proofs.Numbering.NumberingRules.{all_map, block_at}
use Rattle.kit_behaviour.proofs.Numbering.RuleLemmas.{rules_scoped, made_may_put}
use Rattle.kit_behaviour.proofs.Lattice.ReplacementBehaviour.{replace_takes}
use Rattle.kit_behaviour.proofs.Lattice.RenamedFacts.{by_name, by_name_of, best_by_name}
use Rattle.kit_behaviour.proofs.Propagation.InsertionLemmas.{put_takes}
use Rattle.kit_behaviour.proofs.Propagation.ScopeLemmas.{args_has, ops_both}
use Rattle.kit_behaviour.proofs.Propagation.PropagationBehaviour.{same_name_law}
use Rattle.kit_behaviour.proofs.Propagation.FactsAfterwards.{kept_values, kept_blocks}
use Rattle.kit_behaviour.proofs.Propagation.PropagationRules.{left_facts, facts_scoped}

pub place_in_is : {V : Type 0} (same : V → V → Bool) (law : IsSameness same) (g : Option (Fun V)) (v : V) → place_in same g v ≡ place_name same law g v
place_in_is same law None v = refl
place_in_is same law (Some g) v = refl

-- where a name with a place is defined
module _ (f : Fun Place) (v : Place) (h : HasPlace same_place (Some f) v) where
  defined_at : In v (arguments_in (Some f) (block_of h.0)) ⊎ In v (all_defs (left_in (Some f) (block_of h.0) 0))
  defined_at = block_at v (slice_get f (block_of h.0)) h.0 (at_place same_place place_law f v h.0 h.1)

module _ (want : Wants) (f : Option (Fun Place)) (k : FunctionFacts Place) (rules : Rules f) where
  abbrev m : Made Place
  m = made_of want f k

  abbrev g : Option (Fun (OldOrNewName Place))
  g = with_facts want f k

  abbrev same : OldOrNewName Place → OldOrNewName Place → Bool
  same = same_name same_place

  old_at : (b : ℕ) (v : Place) → In v (arguments_in f b) ⊎ In v (all_defs (left_in f b 0)) → In (Old v) (arguments_in g b) ⊎ In (Old v) (all_defs (left_in g b 0))
  old_at b v i =
      ⊎_elim
      (λ l. inl (subst (In (Old v)) (sym (replace_takes (use_of m) (put_in m f) b ∙ put_takes m f b)) (all_map Old v (arguments_in f b) l)))
      (λ r.
      let others = (made_may_put want f k rules).others in
      let ops = put_ops m (left_in f b 0) in
      let d = args_has m f others (Old v) (arguments_in f b) ops (ops_both m f others v (left_in f b 0) (others b) r).0 in
      inr (subst (In (Old v)) (sym (ap all_defs (left_facts want f k rules b) ∙ all_defs_replaced (use_of m) (put_args m (arguments_in f b) ops))) d))
      i

  old_has : (b : ℕ) (v : Place) → In v (arguments_in f b) ⊎ In v (all_defs (left_in f b 0)) → HasPlace same g (Old v)
  old_has b v i = has_place same (same_name_law same_place place_law) g b (Old v) (old_at b v i)

  defined : NamesAreDefined same g
  defined = scoped_defined same (same_name_law same_place place_law) g (facts_scoped want f k rules)

has_old : (want : Wants) (f : Option (Fun Place)) (k : FunctionFacts Place) → Rules f → (v : Place) → HasPlace same_place f v → HasPlace (same_name same_place) (with_facts want f k) (Old v)
has_old want None k rules v h = absurd h
has_old want (Some f) k rules v h = old_has want (Some f) k rules (block_of h.0) v (defined_at f v h)

pub facts_stay : (want : Wants) (f : Option (Fun Place)) (k l : FunctionFacts Place) → Rules f → AreMostPreciseFacts f k → AreMostPreciseFacts (propagated want f k) l → KeepsFunctionFacts want f k l
facts_stay want f k l rules best best_l =
    let law = same_name_law same_place place_law in
    let same = same_name same_place in
    let g = with_facts want f k in
    let gl = by_name same law g l in
    let best_g = best_by_name same law g (defined want f k rules) l best_l in
    let may = made_may_put want f k rules in
    let scoped = rules_scoped f rules in
    record {
      runs = λ b. kept_blocks (made_of want f k) k f may scoped best gl best_g b;
      of = λ v h.
          ap l.of (place_in_is same law g (Old v)) ∙ by_name_of same law g l (Old v) (has_old want f k rules v h) ∙ kept_values (made_of want f k) k f may scoped best gl best_g v;
    }
