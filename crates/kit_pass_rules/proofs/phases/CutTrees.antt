-- Trees of which blocks are cut that no path from the entry reaches.
use Rattle.std.proofs.Common.{◌≡◌, ℕ, Bool, true, false, None, Option, refl, sym, ap, ◌∙◌, subst}
use Rattle.std.specs.Prelude.{not, if◌then◌else◌}
use Rattle.ir_base.specs.declared.types.TypeHandle.{TypeHandle}
use Rattle.ir_program.specs.declared.handles.BasicBlock.{BasicBlock}
use Rattle.ir_program.specs.declared.handles.Operation.{Operation}
use Rattle.ir_program.specs.declared.handles.Ptr.{Ptr}
use Rattle.ir_program.specs.declared.handles.Value.{Value}
use Rattle.ir_trees.specs.Trees.{Sort, end, operation, block, region}
use Rattle.kit.specs.Context.{KitTree}
use Rattle.kit.specs.Meaning.{kit, is_module}
use Rattle.kit_ops.specs.declared.kinds.KitOp.TheVariants as ops
use Rattle.kit_ops.specs.declared.types.KitType.{KitType}
use Rattle.kit_pass_rules.specs.Laws.{IsGood, CutKeepsRules}
use Rattle.kit_pass_rules.proofs.DceVisible.{if_not}
use Rattle.kit_pass_rules.proofs.Thin.{KitBody}
use Rattle.kit_pass_rules.proofs.Walk.{block_of, within, occurrence_of}
use Rattle.kit_pass_rules.specs.CutLaws.{CutStaysGood}
use Rattle.kit_pass_rules.proofs.phases.CarriedTrees.{Carries, keeps_from, good_from}
use Rattle.kit_pass_rules.proofs.pruning.PrunedTrees.{KitHead, KitListed, Pruning, prune, prune_tree}
use Rattle.kit_pass_rules.proofs.pruning.PrunedSites.{KitSpot, KitBlockOf, MayPrune}
use Rattle.opt_trees.specs.Occurrences.{Has, occurrences_of, block_occurrences_of, at_root}
use Rattle.opt_trees.specs.Simplify.{IsReached, entry, further, IsVisited, of_place, of_inner, IsVisitedSsa, keep}
use Rattle.opt_trees.specs.Simplify.{IsCut, all_of}
use Rattle.opt_trees.proofs.NoneDead.{true_false}
use Rattle.opt_trees.proofs.Orderly.{keep_occurrence, keep_block, kept_operation, kept_block}

module _ (gone : Ptr BasicBlock → Bool) where
  abbrev cutting : Pruning
  cutting = record { names = λ o. o; taken = λ h rs. None; gone = gone }

  tree_is : {s : Sort} (x : KitListed s) → keep gone x ≡ prune cutting x
  tree_is end = refl
  tree_is (operation h rs rest) = λ i. operation h (tree_is rs i) (tree_is rest i)
  tree_is (block l os rest) = λ i. if gone l.name then tree_is rest i else block l (tree_is os i) (tree_is rest i)
  tree_is (region bs rest) = λ i. region (tree_is bs i) (tree_is rest i)

module _ (leads : TypeHandle → Option KitType) (typed : Value → Option TypeHandle) (t after : KitTree)
    (good : IsGood leads typed t) (cut : IsCut kit (all_of t) t after) where
  -- all regions of an operation are visited where one is
  visited_any : (a : Ptr Operation) (i j : ℕ) → IsVisited kit (all_of t) t a i → IsVisited kit (all_of t) t a j
  visited_any _ _ j (of_place a i begins) = of_place a j begins
  visited_any _ _ j (of_inner o i stands outer entered) = of_inner o j stands outer entered

  entries : (x : KitBlockOf) → Has x (block_occurrences_of t) → x.spot.first ≡ true → cut.gone x.label.name ≡ false
  entries x h f = if_not (cut.gone x.label.name) (λ q. let z = cut.there x.label.name q in z.unreached (entry x h f))

  modules : (x : KitBlockOf) → Has x (block_occurrences_of t) → x.spot.owner.content.kind ≡ ops.Module →
      cut.gone x.label.name ≡ false
  modules x h m = if_not (cut.gone x.label.name) (λ q.
      let z = cut.there x.label.name q in
      let same : z.it ≡ x = good.apart.blocks z.it x z.stands h z.name in
      let ssa : not (is_module x.spot.owner.content.kind) ≡ true =
      subst (λ (y : KitBlockOf). not (is_module y.spot.owner.content.kind) ≡ true) same z.visited.ssa in
      true_false (not (is_module x.spot.owner.content.kind)) ssa (ap (λ k. not (is_module k)) m))

  targets : (c e : KitSpot) (body target : KitBody) (u : KitTree) → Has (block_of c body) (block_occurrences_of t) →
      Has (occurrence_of (within c body) u) (occurrences_of t) → Has (block_of e target) (block_occurrences_of t) →
      e.owner ≡ c.owner →
      cut.gone body.label.name ≡ false → Has target.label.name u.head.successors → cut.gone target.label.name ≡ false
  targets c e body target u hc hu he owner stays leads_there = if_not (cut.gone target.label.name) (λ q.
      let z = cut.there target.label.name q in
      let same : z.it ≡ block_of e target = good.apart.blocks z.it (block_of e target) z.stands he z.name in
      let seen : IsVisitedSsa kit (all_of t) t e = subst (λ (y : KitBlockOf). IsVisitedSsa kit (all_of t) t y.spot)
      same z.visited in
      let here : IsVisitedSsa kit (all_of t) t c = record {
        visited = visited_any c.owner.name e.region c.region
            (subst (λ (h : KitHead). IsVisited kit (all_of t) t h.name e.region) owner seen.visited);
        ssa = subst (λ (h : KitHead). not (is_module h.content.kind) ≡ true) owner seen.ssa;
      } in
      z.unreached (further (occurrence_of (within c body) u) target.label.name hu (reached here) leads_there))
    where
      reached : IsVisitedSsa kit (all_of t) t c → IsReached t body.label.name
      reached here = step (cut.reach body.label.name) refl
        where
          step : (b : Bool) → cut.reach body.label.name ≡ b → IsReached t body.label.name
          step true q = cut.reached body.label.name q
          step false q = absurd (true_false (cut.gone body.label.name) (cut.all body.label.name (record {
            it = block_of c body;
            stands = hc;
            name = refl;
            visited = here;
            unreached = λ r. true_false (cut.reach body.label.name) (cut.all_reached body.label.name r) q;
          })) stays)

  pub may_cut : MayPrune (cutting cut.gone) t
  may_cut = record {
    conditional = λ h rs i e. absurd (cc e);
    one_of_two = λ h rs i e. absurd (cc e);
    entries = entries;
    modules = modules;
    targets = targets;
  }

  pub is_pruned : after ≡ prune_tree (cutting cut.gone) t
  is_pruned = cut.is ∙ (λ i. record { head = t.head; regions = tree_is cut.gone t.regions i })

  pub cut_carries : Carries t after
  cut_carries = subst (Carries t) (sym cut.is) (record {
    made = keep_occurrence cut.gone;
    block_made = keep_block cut.gone;
    operations = kept_operation cut.gone t.regions (at_root t) entries;
    blocks = kept_block cut.gone t.regions (at_root t) entries;
    names = λ o p ho hp e. e;
    results = λ o. refl;
    labels = λ x. refl;
  })

pub cut_keeps : CutKeepsRules
cut_keeps = λ leads old new t after good cut typed.
    keeps_from leads (cutting cut.gone) t (may_cut leads old t after good cut) after
    (is_pruned leads old t after good cut) old new good typed

pub cut_good : CutStaysGood
cut_good = λ leads typed t after good cut.
    good_from leads (cutting cut.gone) t (may_cut leads typed t after good cut) after
    (is_pruned leads typed t after good cut) typed good
    (cut_carries leads typed t after good cut)
