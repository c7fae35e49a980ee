-- What the pass leaves has most precise facts: those of before, said of the new places.
use Rattle.std.proofs.Common.{◌≡◌, ℕ, Bool, true, false, List, Option, Some, None, refl, sym, ap, ◌∙◌, subst}
use Rattle.std.specs.Prelude.{slice_get, if◌then◌else◌}
use Rattle.kit_behaviour.specs.Machine.{Fun, FunctionsByPath, left_in}
use Rattle.kit_behaviour.specs.Facts.{FactAtOrBelow, FunctionFacts, AreClosedFacts, AreMostPreciseFacts}
use Rattle.kit_behaviour.specs.InsertedConstants.{OldOrNewName, New, same_name, Made, put_in, use_of}
use Rattle.kit_behaviour.specs.Rules.{Rules}
use Rattle.kit_behaviour.specs.ConstantPropagation.{Wants, WantsUsed, known_at, number_of, number_at, made_of, with_facts, propagated, IsSccpOfFunctions}
use Rattle.kit_behaviour.specs.KnownOperands.{KnownArePropagated}
use Rattle.kit_behaviour.specs.Numbering.{place_fun, HasPlace, NamesAreDefined}
use Rattle.kit_behaviour.specs.Places.{Place, Arg, Res, same_place}
use Rattle.kit_behaviour.proofs.Numbering.PlaceEquality.{place_law}
use Rattle.kit_behaviour.proofs.Numbering.NumberingBehaviour.{block_of, place_name}
use Rattle.kit_behaviour.proofs.Numbering.DefinedNames.{has_place, scoped_defined}
use Rattle.kit_behaviour.proofs.Numbering.NumberingRules.{name_at, block_at, name_is}
use Rattle.kit_behaviour.proofs.Numbering.RuleLemmas.{rules_scoped, made_known, made_may_put}
use Rattle.kit_behaviour.proofs.Lattice.RenamedFacts.{fact_named, at_top, by_name, by_name_of, by_place, place_closed, name_closed}
use Rattle.kit_behaviour.proofs.ControlFlow.KeptBlocks.{rules_home}
use Rattle.kit_behaviour.proofs.Propagation.InsertionLemmas.{name_facts}
use Rattle.kit_behaviour.proofs.Propagation.PropagationBehaviour.{same_name_law}
use Rattle.kit_behaviour.proofs.Propagation.FactsAfterwards.{no_more, no_fewer, told_block, names_closed}
use Rattle.kit_behaviour.proofs.Propagation.PropagationRules.{NameOrigin, was_old, was_new, name_put, name_replaced, facts_distinct, facts_scoped}
use Rattle.kit_behaviour.proofs.Propagation.KnownOperandLemmas.{known_placed}

-- a value gets a constant only in a block known to run
if_runs : (b : Bool) (o : Option ℕ) (n : ℕ) → (if b then o else None) ≡ Some n → b ≡ true
if_runs true o n e = refl
if_runs false o n e = absurd (cc e)

known_runs : (f : Option (Fun Place)) (k : FunctionFacts Place) (v : Place) (n : ℕ) → known_at f k v ≡ Some n → k.runs (block_of v) ≡ true
known_runs f k (Arg b i) n e = if_runs (k.runs b) (number_of (k.of (Arg b i))) n e
known_runs f k (Res b o i) n e = if_runs (k.runs b) (number_at (slice_get (left_in f b 0) o) (k.of (Res b o i))) n e

if_then : (b : Bool) (o : Option ℕ) (n : ℕ) → (if b then o else None) ≡ Some n → o ≡ Some n
if_then true o n e = e
if_then false o n e = absurd (cc e)

made_runs : (want : Wants) (f : Option (Fun Place)) (k : FunctionFacts Place) (v : Place) (n : ℕ) → made_of want f k v ≡ Some n → k.runs (block_of v) ≡ true
made_runs want f k v n e = known_runs f k v n (if_then (want f v) (known_at f k v) n e)

module _ (want : Wants) (f : Fun Place) (k : FunctionFacts Place) (rules : Rules (Some f)) (best : AreMostPreciseFacts (Some f) k) where
  abbrev F : Option (Fun Place)
  F = Some f

  abbrev m : Made Place
  m = made_of want F k

  abbrev g : Option (Fun (OldOrNewName Place))
  g = with_facts want F k

  abbrev same : OldOrNewName Place → OldOrNewName Place → Bool
  same = same_name same_place

  defined : NamesAreDefined same g
  defined = scoped_defined same (same_name_law same_place place_law) g (facts_scoped want F k rules)

  module _ (l : FunctionFacts (OldOrNewName Place)) (closed : AreClosedFacts g l) where
    -- each name that has a place after the pass: closed facts say no more of it than the old ones
    of_origin : (a : Place) (y : OldOrNewName Place) → NameOrigin m f a y → FactAtOrBelow (l.of y) ((name_facts k).of y)
    of_origin a y (was_old c v q h w) =
        subst (λ z. FactAtOrBelow (l.of z) ((name_facts k).of z)) (sym q) (no_more m k F (made_may_put want F k rules) (rules_scoped F rules) l closed best v)
    of_origin a y (was_new c n v mn q h w) =
        let home : v ≡ c = rules_home F rules c v h in
        let rk : k.runs (block_of c) ≡ true = made_runs want F k c n (ap m (sym home) ∙ mn) in
        let rl = no_fewer m k F (made_may_put want F k rules) (rules_scoped F rules) l closed best (block_of c) rk in
        let t = told_block m k F (made_may_put want F k rules) (rules_scoped F rules) l closed best (block_of c) rl rk v (block_at v (slice_get f (block_of c)) c h) n mn in
        subst (λ z. FactAtOrBelow (l.of z) ((name_facts k).of z)) (sym q) (subst (FactAtOrBelow (l.of (New v))) (sym (made_known want F k v n mn)) t)

    of_place : (a : Place) (y : OldOrNewName Place) → name_at g a ≡ Some y → FactAtOrBelow (l.of y) ((name_facts k).of y)
    of_place a y e = of_origin a y (name_put m f a y (sym (name_replaced (use_of m) (put_in m F) a) ∙ e))

  -- the place of a name that is at a place
  named_has : (a : Place) (y : OldOrNewName Place) → name_at g a ≡ Some y → HasPlace same g y
  named_has a y e = in_block g y a e
    where
      in_block : (h : Option (Fun (OldOrNewName Place))) (y : OldOrNewName Place) (a : Place) → name_at h a ≡ Some y → HasPlace same h y
      in_block None y a e = absurd (cc e)
      in_block (Some h) y a e = has_place same (same_name_law same_place place_law) (Some h) (block_of a) y (block_at y (slice_get h (block_of a)) a e)

  pub new_facts : FunctionFacts Place
  new_facts = by_place same (same_name_law same_place place_law) g (name_facts k)

  place_above : (L : FunctionFacts Place) → AreClosedFacts (place_fun same g) L → (a : Place) (o : Option (OldOrNewName Place)) → name_at g a ≡ o → FactAtOrBelow (L.of a) (fact_named (name_facts k) o)
  place_above L c a None e = at_top (L.of a)
  place_above L c a (Some y) e =
      let law = same_name_law same_place place_law in
      let low = of_place (by_name same law g L) (name_closed same law g defined L c) a y e in
      let at : place_name same law g y ≡ a = name_is same law g (facts_distinct want F k rules) y a e in
      subst (λ t. FactAtOrBelow t ((name_facts k).of y)) (sym (by_name_of same law g L y (named_has a y e)) ∙ ap L.of at) low

  pub new_best : AreMostPreciseFacts (place_fun same g) new_facts
  unfolding new_facts
  new_best =
      let law = same_name_law same_place place_law in
      record {
        closed = place_closed same law g defined (name_facts k) (names_closed m k F (made_may_put want F k rules) best.closed);
        best = λ L c. record {
          fewer = λ b r. no_fewer m k F (made_may_put want F k rules) (rules_scoped F rules) (by_name same law g L) (name_closed same law g defined L c) best b r;
          above = λ a. place_above L c a (name_at g a) refl;
        };
      }

pub propagated_known : (want : Wants) → WantsUsed want → (f : Option (Fun Place)) (k : FunctionFacts Place) → Rules f → AreMostPreciseFacts f k → KnownArePropagated (propagated want f k)
propagated_known want wants None k rules best = (k, best, known_placed want wants None k rules best k best)
propagated_known want wants (Some f) k rules best = (new_facts want f k rules best, new_best want f k rules best, known_placed want wants (Some f) k rules best (new_facts want f k rules best) (new_best want f k rules best))

pub sccp_known : (want : Wants) → WantsUsed want → (p q : FunctionsByPath Place) → ((path : List ℕ) → Rules (p path)) → IsSccpOfFunctions want p q → (path : List ℕ) → KnownArePropagated (q path)
sccp_known want wants p q rules is path = subst KnownArePropagated (sym (is.is path)) (propagated_known want wants (p path) (is.facts path) (rules path) (is.best path))
