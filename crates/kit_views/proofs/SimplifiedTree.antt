-- The pass on control flow on the tree of a function, and on its flat view.
use Rattle.std.proofs.Common.{ℕ, ◌<◌, Bool, List, map, Option, Some, refl, sym, ap, subst, arith}
use Rattle.ir_base.specs.declared.types.TypeHandle.{TypeHandle}
use Rattle.ir_trees.specs.Names.{Names}
use Rattle.ir_trees.specs.Trees.{Root}
use Rattle.opt_trees.specs.Dce.{TreeSurroundings}
use Rattle.opt_trees.specs.Simplify.{all_of, decided, IsJoined, IsSimplify}
use Rattle.kit_behaviour.specs.DecidedBranches.{decide_block, decide}
use Rattle.kit_behaviour.specs.Facts.{FunctionFacts}
use Rattle.kit_behaviour.specs.Machine.{Fun, left_in, size}
use Rattle.kit_behaviour.specs.Rules.{EndsWell}
use Rattle.kit_behaviour.specs.SimplifiedBlocks.{all_edges, LeadsTo, Reached, first, further, IsReachedSet, retarget}
use Rattle.kit_behaviour.specs.SimplifiedBlocks.{retarget_edge, keep, Merges}
use Rattle.kit_behaviour.proofs.Behaviour.SizeLemmas.{decide_size}
use Rattle.kit_behaviour.proofs.Lattice.DecisionBehaviour.{decide_left}
use Rattle.kit_behaviour.proofs.ControlFlow.DecisionRules.{ends_decided}
use Rattle.kit_behaviour.proofs.ControlFlow.KeptBlocks.{at, ends_kept, keep_left, stood}
use Rattle.kit_behaviour.proofs.ControlFlow.SimplifyBehaviour.{leads_through, edges_retarget}
use Rattle.kit_ops.specs.declared.attributes.IntegerAttr.{IntegerAttr}
use Rattle.kit_ops.specs.declared.types.KitType.{KitType}
use Rattle.kit.specs.Meaning.{kit}
use Rattle.kit_views.specs.Reading.{kit_contents, kit_reading}
use Rattle.kit_views.specs.FlatView.{IsSameness, FlattensTo}
use Rattle.kit_views.specs.FlatBranches.{KnowsConstants}
use Rattle.kit_views.specs.Laws.{EndWell, IsSimplifiedFlat}
use Rattle.kit_views.specs.Typed.{IsTyped}
use Rattle.kit_views.proofs.DecidedTree.{decided_by_own}
use Rattle.kit_views.proofs.KeptTree.{unreached_cut}
use Rattle.kit_views.proofs.JoinedTree.{chains_merged}

-- each block ends well in these functions
abbrev EndWells : {V : Type 0} → Option (Fun V) → Type 0
EndWells f = (b : ℕ) → b < size f → EndsWell (left_in f b 0)

-- each block of these functions is reached
abbrev AllReached : {V : Type 0} → Option (Fun V) → Type 0
AllReached f = (b : ℕ) → b < size f → Reached f b

decided_ends : {V : Type 0} (k : FunctionFacts V) (f : Option (Fun V)) → EndWells f → EndWells (decide k f)
decided_ends k f ends b l = subst EndsWell (sym (decide_left k f b 0))
    (ends_decided k (left_in f b 0) (ends b (omega (arith, l, decide_size k f))))

module _ {V : Type 0} (f : Option (Fun V)) (r : ℕ → Bool) (is : IsReachedSet f r) where
  kept_reached : (b : ℕ) → Reached f b → Reached (keep r f) (at r b)
  kept_reached b (first c e) = first (at r b) (ap (at r) e)
  kept_reached _ (further c t m l) =
      further (at r c) (at r t) (kept_reached c m)
      (subst (λ ps. LeadsTo (at r t) (all_edges ps)) (sym (keep_left r f c (is.full c m)))
      (leads_through (retarget (at r)) (retarget_edge (at r)) (at r) (edges_retarget (at r)) (λ y. refl) t
      (left_in f c 0) l))

  all_kept : AllReached (keep r f)
  all_kept b l = let w = stood r f b l in subst (Reached (keep r f)) (sym w.is)
      (kept_reached w.old (is.sound w.old w.kept))

  kept_ends : EndWells f → EndWells (keep r f)
  kept_ends ends b l =
      let w = stood r f b l in
      subst (λ c. EndsWell (left_in (keep r f) c 0)) (sym w.is)
      (subst EndsWell (sym (keep_left r f w.old w.kept))
      (ends_kept (at r) (left_in f w.old 0) (ends w.old w.before)))

pub simplified : {N : Names} (same : N.value → N.value → Bool) (leads : TypeHandle → Option KitType)
    (numbered : List ℕ → ℕ) (type_at : N.value → TypeHandle) (w : TreeSurroundings N IntegerAttr) (t after : Root N kit_contents)
    (f : Fun N.value) → IsSameness same → FlattensTo (kit_reading leads numbered) t f → IsTyped leads {N = N} type_at t →
    KnowsConstants w t → EndWell f → IsSimplify kit w t after → IsSimplifiedFlat (kit_reading leads numbered) f after
simplified {N} same leads numbered type_at w t after f sameness is_flat typed constants ends s =
    let d = decided_by_own same leads numbered type_at w t f sameness is_flat typed constants in
    let g : Fun N.value = map (decide_block d.0) f in
    let cut = unreached_cut leads numbered (decided kit w t) s.cut g d.2 s.is_cut in
    let cut_ends : EndWells (Some cut.rest) = subst EndWells cut.is
    (kept_ends (Some g) cut.reach cut.is_reach (decided_ends d.0 (Some f) ends)) in
    let cut_reached : AllReached (Some cut.rest) = subst AllReached cut.is (all_kept (Some g) cut.reach cut.is_reach) in
    let joined : IsJoined kit (all_of s.cut) s.cut after =
    subst (λ p. IsJoined kit p s.cut after) (sym (ap all_of s.is_cut.is)) s.is_joined in
    let m = chains_merged same leads numbered s.cut after cut.rest sameness cut.is_view cut_ends cut_reached joined in
    record {
      rest = m.rest;
      simplifies = record {
        constants = d.0;
        are = d.1;
        reach = cut.reach;
        reached = cut.is_reach;
        merges = subst (λ z. Merges z (Some m.rest)) (sym cut.is) m.merges;
      };
      is_view = m.is_view;
    }
