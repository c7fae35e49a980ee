-- The tree of a sound module is orderly: its names are distinct, and blocks end once.
use Rattle.std.proofs.Common.{◌≡◌, ⊎_elim, ℕ, List, [], ◌∷◌, Option, Some, sym, ap, ◌∙◌, subst}
use Rattle.std.specs.Prelude.{slice_get}
use Rattle.ir_base.specs.declared.types.TypeHandle.{TypeHandle}
use Rattle.ir_trees.specs.Names.{Names}
use Rattle.ir_trees.specs.Renames.{names_of}
use Rattle.ir_trees.specs.Trees.{Blocks, Tree, Root}
use Rattle.opt_trees.specs.Occurrences.{Has, Occurrence, BlockOccurrence, at_root, occurrences_in, occurrences_of}
use Rattle.opt_trees.specs.Simplify.{ArgumentsApart, EndsApart, IsOrderly}
use Rattle.opt_trees.proofs.Lists.{has-from_map}
use Rattle.opt_trees.proofs.Reached as reached
use Rattle.kit_ops.specs.declared.types.KitType.{KitType}
use Rattle.kit.specs.Meaning.{kit}
use Rattle.kit_views.specs.FlatView.{names_in}
use Rattle.kit_views.specs.Reading.{kit_contents, kit_reading}
use Rattle.kit_views.proofs.Definers.{ByBlock, makes, definers, all_made, block_definer}
use Rattle.kit_views.proofs.Lists.{Distinct, to_distinct, from_distinct, distinct_left, distinct_right, gathered, has_get}
use Rattle.kit_views.proofs.Standing.{strip}
use Rattle.kit_ruled_views.specs.Sound.{tree_of, IsHolder, IsInFunction, IsSound}
use Rattle.kit_ruled_views.proofs.programs.FlatShallow.{flat_shallow, sound_local}
use Rattle.kit_ruled_views.proofs.programs.Inside.{Function, function_at, up, inside_up}
use Rattle.kit_ruled_views.proofs.programs.Lifted.{one_operation, one_block, one_definer}
use Rattle.kit_ruled_views.proofs.programs.ShallowFunctions.{at_home}
use Rattle.kit_text_programs.proofs.Passes.EndsOnce.{one_end}

-- what one gives of what is given without repeats has none
part_distinct : {X Y : Type 0} (f : X → List Y) (xs : List X) (x : X) → Distinct (gathered f xs) → Has x xs →
    Distinct (f x)
part_distinct f [] x d h = absurd h
part_distinct f (u ∷ xs) x d h =
    ⊎_elim
    (λ e. subst (λ z. Distinct (f z)) (sym e) (distinct_left (f u) (gathered f xs) d))
    (λ k. part_distinct f xs x (distinct_right (f u) (gathered f xs) d) k)
    h

module _ {N : Names} (leads : TypeHandle → Option KitType) (numbered : List ℕ → ℕ) (type_at : N.value → TypeHandle)
    (t : Root N kit_contents) (sound : IsSound {N = N} leads numbered type_at t) where
  abbrev Op : Type 0
  Op = Occurrence N kit_contents

  abbrev Bl : Type 0
  Bl = BlockOccurrence N kit_contents

  by_block : (x y : Bl) → ByBlock x ≡ ByBlock y → x ≡ y
  by_block x y e = cc e

  -- a value is an argument of one block, at one index
  arguments_apart : ArgumentsApart t
  arguments_apart x y v i j hx hy ex ey =
      let dx = block_definer t.regions (at_root t) x hx in
      let dy = block_definer t.regions (at_root t) y hy in
      let same : x ≡ y = by_block x y
      (one_definer t sound.names.values (ByBlock x) (ByBlock y) v dx dy
      (has_get (names_of x.label.arguments) i v ex) (has_get (names_of y.label.arguments) j v ey)) in
      let own : Distinct (names_of x.label.arguments) =
      part_distinct makes (definers t.regions (at_root t)) (ByBlock x)
      (subst Distinct (sym (all_made t.regions (at_root t))) (to_distinct _ sound.names.values)) dx in (
        same,
        from_distinct (names_of x.label.arguments) own i j v ex
            (subst (λ (z : Bl). slice_get (names_of z.label.arguments) j ≡ Some v) (sym same) ey),
      )

  -- one operation of a block names successors: it stands in a function, whose flat view ends well
  ends_apart : EndsApart t
  ends_apart o p b c ho hp e mb mc =
      ⊎_elim
      (λ (z : IsHolder {N = N} o). absurd (subst (Has b) z.no_successors mb))
      (λ (z : IsInFunction {N = N} t o).
      let f : Op = z.function in
      let fn : Function {N = N} leads numbered type_at t sound f =
      function_at {N = N} leads numbered type_at t sound f z.stands z.is in
      let flat = fn.sound_function.is_flat in
      let bs : Tree N kit_contents Blocks = flat.view.blocks in
      let u : Root N kit_contents = tree_of f in
      let shallow = flat_shallow (kit_reading leads numbered) u fn.sound_function.flat flat in
      let s = has-from_map (up {N = N} leads numbered type_at t sound f) o (occurrences_of u)
      (subst (Has o) (inside_up {N = N} leads numbered type_at t sound f fn) z.inside) in
      let own = ⊎_elim (λ n. absurd n) (λ n. n) (reached.holder f.regions (at_root u) s.it s.stands) in
      let label : o.site.label.name ≡ s.it.site.label.name = ap (λ (x : Op). x.site.label.name) (sym s.is) in
      let q = at_home kit t (sound_local {N = N} leads numbered type_at t sound)
      (one_operation t sound.names.operations) f z.stands shallow p own.it hp own.stands
      (sym e ∙ label ∙ sym (ap (λ l. l.name) own.label)) in
      let in_blocks = λ (x : Op) (h : Has x (occurrences_of u)). strip x (occurrences_in bs (at_root u))
      (subst (λ y. Has x (occurrences_in y (at_root u))) flat.view.region h) in
      let same : s.it ≡ q.0 =
      one_end (kit_reading leads numbered) (names_in bs) bs fn.sound_function.flat (at_root u) flat.view.are
      (to_distinct (names_in bs) flat.blocks) fn.sound_function.ends s.it q.0 (in_blocks s.it s.stands)
      (in_blocks q.0 q.1) (sym label ∙ e ∙ ap (λ (x : Op). x.site.label.name) (sym q.2)) b c
      (subst (λ (x : Op). Has b x.head.successors) (sym s.is) mb)
      (subst (λ (x : Op). Has c x.head.successors) (sym q.2) mc) in
      sym s.is ∙ ap (up {N = N} leads numbered type_at t sound f) same ∙ q.2)
      (sound.others o ho)

  pub orderly : IsOrderly t
  orderly = record {
    operations = one_operation t sound.names.operations;
    blocks = one_block t sound.names.blocks;
    arguments = arguments_apart;
    ends = ends_apart;
  }

-- the tree of a sound module is orderly
pub sound_orderly : {N : Names} (leads : TypeHandle → Option KitType) (numbered : List ℕ → ℕ)
    (type_at : N.value → TypeHandle) (t : Root N kit_contents) → IsSound {N = N} leads numbered type_at t → IsOrderly t
sound_orderly {N} leads numbered type_at t sound = orderly {N = N} leads numbered type_at t sound
