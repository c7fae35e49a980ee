-- Edges in the tree of a module stay in the function that they start in.
use Rattle.std.proofs.Common.{◌≡◌, ⊎_elim, inl, inr, ℕ, List, [], Option, Some, refl, sym, ap}
use Rattle.std.proofs.Common.{◌∙◌, subst}
use Rattle.std.specs.Prelude.{slice_get}
use Rattle.ir_base.specs.declared.types.TypeHandle.{TypeHandle}
use Rattle.ir_trees.specs.Names.{Names}
use Rattle.ir_trees.specs.Trees.{Head, Blocks, Tree, end, block, Root}
use Rattle.opt_trees.specs.Occurrences.{Has, Spot, Occurrence, BlockOccurrence, inner, next_block, occurrences_in}
use Rattle.opt_trees.specs.Occurrences.{block_occurrences_in, occurrences_of, block_occurrences_of, at_root}
use Rattle.opt_trees.proofs.Lists.{has-map, has-from_map}
use Rattle.opt_trees.proofs.NoneDead.{has-left, has-right}
use Rattle.kit_ops.specs.declared.types.KitType.{KitType}
use Rattle.kit_behaviour.specs.Machine.{Edge}
use Rattle.kit_behaviour.specs.SimplifiedBlocks.{edges_of}
use Rattle.kit_views.specs.FlatView.{names_in}
use Rattle.kit_views.specs.Reading.{kit_contents, kit_reading}
use Rattle.kit_views.proofs.Lists.{has_get}
use Rattle.kit_views.proofs.ReachedBoth.{successors_are}
use Rattle.kit_ruled_views.specs.Sound.{tree_of, IsHolder, IsInFunction, IsSound}
use Rattle.kit_ruled_views.proofs.programs.Lifted.{one_operation, one_block}
use Rattle.kit_ruled_views.proofs.programs.Inside.{Function, function_at, up, up_block, inside_up, block_there, pair}
use Rattle.kit_ruled_views.proofs.programs.Inside.{block_pair}

-- a block of each name
pub named_block : {N : Names} (bs : Tree N kit_contents Blocks) (c : Spot N kit_contents) (b : N.block) →
    Has b (names_in bs) → (x : BlockOccurrence N kit_contents) × Has x (block_occurrences_in bs c) × (x.label.name ≡ b)
named_block end c b h = absurd h
named_block (block l os more) c b h =
    ⊎_elim
    (λ e. (record { spot = c; label = l; operations = os }, inl refl, sym e))
    (λ m.
    let x = named_block more (next_block c) b m in (
      x.0,
      inr (has-right x.0 (block_occurrences_in os (record { spot = c; label = l }))
          (block_occurrences_in more (next_block c)) x.1),
      x.2,
    ))
    h

module _ {N : Names} (leads : TypeHandle → Option KitType) (numbered : List ℕ → ℕ) (type_at : N.value → TypeHandle)
    (t : Root N kit_contents) (sound : IsSound {N = N} leads numbered type_at t) where
  pub block_of_name : (o : Occurrence N kit_contents) →
      (function : Function {N = N} leads numbered type_at t sound o) → (b : N.block) →
      Has b (names_in function.sound_function.is_flat.view.blocks) →
      (x : BlockOccurrence N kit_contents) × Has x (block_occurrences_of (tree_of o)) × (x.label.name ≡ b)
  block_of_name o function b m =
      let view = function.sound_function.is_flat.view in
      let bs : Tree N kit_contents Blocks = view.blocks in
      let x = named_block bs (at_root (tree_of o)) b m in (
        x.0,
        subst (λ z. Has x.0 (block_occurrences_in z (at_root (tree_of o)))) (sym view.region)
            (has-left x.0 (block_occurrences_in bs (at_root (tree_of o))) [] x.1),
        x.2,
      )

  pub successor_inside : (o : Occurrence N kit_contents) →
      (function : Function {N = N} leads numbered type_at t sound o) → (p : Occurrence N kit_contents) →
      Has p (occurrences_of (tree_of o)) → (b : N.block) → Has b p.head.successors →
      (x : BlockOccurrence N kit_contents) × Has x (block_occurrences_of (tree_of o)) × (x.label.name ≡ b)
  successor_inside o function p h b m =
      let view = function.sound_function.is_flat.view in
      let bs : Tree N kit_contents Blocks = view.blocks in
      let q = pair {N = N} leads numbered type_at t sound o function p h in
      let all = successors_are (kit_reading leads numbered) (names_in bs) p.head q.op q.is in
      let e = has-from_map (λ (x : Edge N.value). slice_get (names_in bs) x.target) (Some b)
      (edges_of q.op)
      (subst (Has (Some b)) all (has-map Some b p.head.successors m)) in
      block_of_name o function b (has_get (names_in bs) e.it.target b e.is)

  pub target_inside : (o : Occurrence N kit_contents) →
      (function : Function {N = N} leads numbered type_at t sound o) → (q : Occurrence N kit_contents) →
      Has q (occurrences_of t) → (x : BlockOccurrence N kit_contents) → Has x (block_occurrences_of (tree_of o)) →
      Has x.label.name q.head.successors →
      (p : Occurrence N kit_contents) × Has p (occurrences_of (tree_of o))
      × (up {N = N} leads numbered type_at t sound o p ≡ q)
  target_inside o fo q k x hx m =
      ⊎_elim
      (λ (h : IsHolder {N = N} q). absurd (subst (Has x.label.name) h.no_successors m))
      (λ (h : IsInFunction {N = N} t q).
      let p : Occurrence N kit_contents = h.function in
      let fp = function_at {N = N} leads numbered type_at t sound p h.stands h.is in
      let z = has-from_map (up {N = N} leads numbered type_at t sound p) q (occurrences_of (tree_of p))
      (subst (Has q) (inside_up {N = N} leads numbered type_at t sound p fp) h.inside) in
      let y = successor_inside p fp z.it z.stands x.label.name
      (subst (λ (o : Occurrence N kit_contents). Has x.label.name o.head.successors) (sym z.is) m) in
      let one = one_block t sound.names.blocks (up_block {N = N} leads numbered type_at t sound p y.0)
      (up_block {N = N} leads numbered type_at t sound o x)
      (block_there {N = N} leads numbered type_at t sound p fp y.0 y.1)
      (block_there {N = N} leads numbered type_at t sound o fo x hx) y.2 in
      let heads : p.head ≡ o.head =
      sym (block_pair {N = N} leads numbered type_at t sound p fp y.0 y.1).same.owner
      ∙ ap (λ (b : BlockOccurrence N kit_contents). b.spot.owner) one
      ∙ (block_pair {N = N} leads numbered type_at t sound o fo x hx).same.owner in
      let same : p ≡ o = one_operation t sound.names.operations p o fp.stands fo.stands
      (ap (λ (g : Head N kit_contents). g.name) heads) in
      let w = has-from_map (up {N = N} leads numbered type_at t sound o) q (occurrences_of (tree_of o))
      (subst (Has q) (inside_up {N = N} leads numbered type_at t sound o fo)
      (subst (λ (x : Occurrence N kit_contents). Has q (occurrences_in x.regions (inner x.head x.site))) same
      h.inside)) in
      (w.it, w.stands, w.is))
      (sound.others q k)
