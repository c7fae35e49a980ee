-- A function with a flat view holds its blocks in one region, and its edges stay there; so do the edges of a module.
use Rattle.std.proofs.Common.{◌≡◌, ⊎_elim, ℕ, List, [], ◌∷◌, ◌++◌, Option, Some, refl, sym, ap, ◌∙◌, subst}
use Rattle.std.specs.Prelude.{slice_get}
use Rattle.ir_base.specs.declared.types.TypeHandle.{TypeHandle}
use Rattle.ir_trees.specs.Names.{Names}
use Rattle.ir_trees.specs.Trees.{Blocks, Tree, end, block, Root}
use Rattle.opt_trees.specs.Occurrences.{Has, Spot, Occurrence, BlockOccurrence, next_block, occurrences_in}
use Rattle.opt_trees.specs.Occurrences.{block_occurrences_in, occurrences_of, at_root}
use Rattle.opt_trees.specs.Simplify.{IsLocal}
use Rattle.opt_trees.proofs.Lists.{has-map, has-from_map}
use Rattle.opt_trees.proofs.NoneDead.{has-append, has-left}
use Rattle.opt_trees.proofs.Reached as reached
use Rattle.kit_ops.specs.declared.types.KitType.{KitType}
use Rattle.kit_behaviour.specs.Machine.{Edge, Fun}
use Rattle.kit_behaviour.specs.SimplifiedBlocks.{edges_of}
use Rattle.kit_views.specs.FlatView.{AreFlatBlocks, FlattensTo, names_in}
use Rattle.kit_views.specs.Reading.{Reading, kit_contents, kit_reading}
use Rattle.kit_views.proofs.Lists.{has_get}
use Rattle.kit_views.proofs.Pairs.{no_blocks, pairs}
use Rattle.kit_views.proofs.ReachedBoth.{successors_are}
use Rattle.kit_views.proofs.Standing.{strip}
use Rattle.kit_ruled_views.specs.Sound.{tree_of, IsHolder, IsInFunction, IsSound}
use Rattle.kit_ruled_views.proofs.programs.Lifted.{one_block}
use Rattle.kit_ruled_views.proofs.programs.Inside.{function_at, up, up_block, inside_up, block_there}
use Rattle.kit_ruled_views.proofs.programs.ShallowFunctions.{IsAtRoot, IsShallow}
use Rattle.kit_ruled_views.proofs.programs.SuccessorsInside.{named_block}

module _ {N : Names} (r : Reading kit_contents) (u : Root N kit_contents) where
  -- blocks of the first region stand at the root
  blocks_at : (names : List N.block) (bs : Tree N kit_contents Blocks) (ks : Fun N.value) (c : Spot N kit_contents) →
      AreFlatBlocks r names bs ks → IsAtRoot u c → (x : BlockOccurrence N kit_contents) →
      Has x (block_occurrences_in bs c) → IsAtRoot u x.spot
  blocks_at names end ks c are at x h = absurd h
  blocks_at names (block l os more) [] c are at x h = absurd are
  blocks_at names (block l os more) (k ∷ ks) c are at x h =
      ⊎_elim
      (λ e. subst (λ (y : BlockOccurrence N kit_contents). IsAtRoot u y.spot) (sym e) at)
      (λ m. ⊎_elim
      (λ z. absurd (no_blocks r names os k.ops (record { spot = c; label = l }) are.1 x z))
      (λ z. blocks_at names more ks (next_block c) are.2
      (record { owner = at.owner; around = at.around; within = at.within; region = at.region }) x z)
      (has-append x (block_occurrences_in os (record { spot = c; label = l }))
      (block_occurrences_in more (next_block c)) m))
      h

  pub flat_shallow : (f : Fun N.value) → FlattensTo r u f → IsShallow u
  flat_shallow f flat = record {
    blocks = λ x h. blocks_at (names_in flat.view.blocks) flat.view.blocks f (at_root u) flat.view.are
        (record { owner = refl; around = refl; within = refl; region = refl }) x
        (strip x (block_occurrences_in flat.view.blocks (at_root u))
        (subst (λ z. Has x (block_occurrences_in z (at_root u))) flat.view.region h));
    edges = λ p b h m.
        let bs : Tree N kit_contents Blocks = flat.view.blocks in
        let q = pairs r (names_in bs) bs f (at_root u) flat.view.are p
        (strip p (occurrences_in bs (at_root u)) (subst (λ z. Has p (occurrences_in z (at_root u))) flat.view.region
        h)) in
        let e = has-from_map (λ (x : Edge N.value). slice_get (names_in bs) x.target) (Some b) (edges_of q.op)
        (subst (Has (Some b)) (successors_are r (names_in bs) p.head q.op q.is) (has-map Some b p.head.successors m)) in
        let x = named_block bs (at_root u) b (has_get (names_in bs) e.it.target b e.is) in (
          x.0,
          subst (λ z. Has x.0 (block_occurrences_in z (at_root u))) (sym flat.view.region)
              (has-left x.0 (block_occurrences_in bs (at_root u)) [] x.1),
          x.2,
        );
  }

pub sound_local : {N : Names} (leads : TypeHandle → Option KitType) (numbered : List ℕ → ℕ)
    (type_at : N.value → TypeHandle) (t : Root N kit_contents) → IsSound {N = N} leads numbered type_at t → IsLocal t
sound_local {N} leads numbered type_at t sound = record {
  blocks = one_block t sound.names.blocks;
  edges = λ o x h k m.
      ⊎_elim
      (λ (z : IsHolder {N = N} o). absurd (subst (Has x.label.name) z.no_successors m))
      (λ (z : IsInFunction {N = N} t o).
      let p : Occurrence N kit_contents = z.function in
      let fp = function_at {N = N} leads numbered type_at t sound p z.stands z.is in
      let shallow = flat_shallow (kit_reading leads numbered) (tree_of p) fp.sound_function.flat
      fp.sound_function.is_flat in
      let s = has-from_map (up {N = N} leads numbered type_at t sound p) o (occurrences_of (tree_of p))
      (subst (Has o) (inside_up {N = N} leads numbered type_at t sound p fp) z.inside) in
      let y = shallow.edges s.it x.label.name s.stands
      (subst (λ (q : Occurrence N kit_contents). Has x.label.name q.head.successors) (sym s.is) m) in
      let same : up_block {N = N} leads numbered type_at t sound p y.0 ≡ x =
      one_block t sound.names.blocks (up_block {N = N} leads numbered type_at t sound p y.0) x
      (block_there {N = N} leads numbered type_at t sound p fp y.0 y.1) k y.2 in
      let own = ⊎_elim (λ n. absurd n) (λ n. n) (reached.holder p.regions (at_root (tree_of p)) s.it s.stands) in
      let there = shallow.blocks y.0 y.1 in
      let here = subst (IsAtRoot (tree_of p)) own.spot (shallow.blocks own.it own.stands) in
      record {
        around =
            ap (λ (q : BlockOccurrence N kit_contents). q.spot.around) (sym same)
            ∙ ap (λ l. l ++ (p.head.name ∷ p.site.spot.around)) (there.around ∙ sym here.around)
            ∙ ap (λ (q : Occurrence N kit_contents). q.site.spot.around) s.is;
        region =
            ap (λ (q : BlockOccurrence N kit_contents). q.spot.region) (sym same)
            ∙ (there.region ∙ sym here.region)
            ∙ ap (λ (q : Occurrence N kit_contents). q.site.spot.region) s.is;
        within =
            ap (λ (q : BlockOccurrence N kit_contents). q.spot.within) (sym same)
            ∙ ap (λ l. l ++ (p.site.label.name ∷ p.site.spot.within)) (there.within ∙ sym here.within)
            ∙ ap (λ (q : Occurrence N kit_contents). q.site.spot.within) s.is;
      })
      (sound.others o h);
}
