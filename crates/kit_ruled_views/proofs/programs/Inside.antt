-- A function in the tree of a module: what stands in it stands in the module, and what is named there stands in it.
use Rattle.std.proofs.Common.{◌≡◌, ⊎_elim, ℕ, List, [], ◌∷◌, ◌++◌, map, Option, Some}
use Rattle.std.proofs.Common.{sym, ap, ◌∙◌, subst}
use Rattle.std.specs.Prelude.{slice_get}
use Rattle.ir_base.specs.declared.types.TypeHandle.{TypeHandle}
use Rattle.ir_trees.specs.Names.{Names}
use Rattle.ir_trees.specs.Renames.{names_of}
use Rattle.ir_trees.specs.Trees.{Head, Blocks, Tree, Root}
use Rattle.opt_trees.specs.Occurrences.{Has, Occurrence, BlockOccurrence, inner, occurrences_in}
use Rattle.opt_trees.specs.Occurrences.{block_occurrences_in, occurrences_of, block_occurrences_of, at_root, defined_in}
use Rattle.opt_trees.proofs.Defined.{definer}
use Rattle.opt_trees.proofs.Lists.{has-map, has-from_map, none_some}
use Rattle.opt_trees.proofs.NoneDead.{has-append}
use Rattle.kit_ops.specs.declared.kinds.KitOp.TheVariants as ops
use Rattle.kit_ops.specs.declared.types.KitType.{KitType}
use Rattle.kit_views.specs.FlatView.{names_in}
use Rattle.kit_views.specs.Reading.{Reading, kit_contents, kit_reading}
use Rattle.kit_views.proofs.Definers.{ByOp, ByBlock, op_definer, block_definer}
use Rattle.kit_views.proofs.Lists.{has_get}
use Rattle.kit_views.proofs.Pairs.{Pair, pairs, BlockPair, block_pairs}
use Rattle.kit_ruled_views.specs.Sound.{tree_of, IsSoundFunction, IsHolder, IsInFunction, IsSound}
use Rattle.kit_ruled_views.proofs.programs.Lifted.{lift, lift_block, lifted, lifted_blocks, blocks_inside, one_operation}
use Rattle.kit_ruled_views.proofs.programs.Lifted.{one_block, one_definer, inside_there}

strip : {X : Type 0} (x : X) (xs : List X) → Has x (xs ++ []) → Has x xs
strip x xs h = ⊎_elim (λ i. i) (λ i. absurd i) (has-append x xs [] h)

by_op : {N : Names} (o p : Occurrence N kit_contents) → ByOp o ≡ ByOp p → o ≡ p
by_op o p e = cc e

by_block : {N : Names} (o p : BlockOccurrence N kit_contents) → ByBlock o ≡ ByBlock p → o ≡ p
by_block o p e = cc e

op_or_block : {N : Names} (o : Occurrence N kit_contents) (y : BlockOccurrence N kit_contents) → ByOp o ≡ ByBlock y → ⊥
op_or_block o y e = absurd (cc e)

first_same : {X : Type 0} (x y : X) (xs ys : List X) → x ∷ xs ≡ y ∷ ys → x ≡ y
first_same x y xs ys e = cc e

module _ {N : Names} (leads : TypeHandle → Option KitType) (numbered : List ℕ → ℕ) (type_at : N.value → TypeHandle)
    (t : Root N kit_contents) (sound : IsSound {N = N} leads numbered type_at t) where
  abbrev pub Op : Type 0
  Op = Occurrence N kit_contents

  abbrev pub Bl : Type 0
  Bl = BlockOccurrence N kit_contents

  -- a function
  pub record Function (o : Op) : Type 0 where
    pub stands : Has o (occurrences_of t)
    pub sound_function : IsSoundFunction {N = N} leads numbered type_at o

  pub function_at : (o : Op) → Has o (occurrences_of t) → o.head.content.kind ≡ ops.Func → Function o
  function_at o stands kind = record { stands = stands; sound_function = sound.functions o stands kind }

  abbrev pub up : Op → Op → Op
  up o p = lift (o.head.name ∷ o.site.spot.around) (o.site.label.name ∷ o.site.spot.within) p

  abbrev pub up_block : Op → Bl → Bl
  up_block o x = lift_block (o.head.name ∷ o.site.spot.around) (o.site.label.name ∷ o.site.spot.within) x

  module _ (o : Op) (function : Function o) where
    abbrev pub u : Root N kit_contents
    u = tree_of o

    -- what stands in the function, as it stands in the module
    pub inside_up : occurrences_in o.regions (inner o.head o.site) ≡ map (up o) (occurrences_of u)
    inside_up = lifted (o.head.name ∷ o.site.spot.around) (o.site.label.name ∷ o.site.spot.within) o.regions (at_root u)

    inside_blocks : block_occurrences_in o.regions (inner o.head o.site) ≡ map (up_block o) (block_occurrences_of u)
    inside_blocks =
        lifted_blocks (o.head.name ∷ o.site.spot.around) (o.site.label.name ∷ o.site.spot.within) o.regions (at_root u)

    pub there : (p : Op) → Has p (occurrences_of u) → Has (up o p) (occurrences_of t)
    there p h =
        inside_there t.regions (at_root t) o (up o p) function.stands
        (subst (Has (up o p)) (sym inside_up) (has-map (up o) p (occurrences_of u) h))

    pub block_there : (x : Bl) → Has x (block_occurrences_of u) → Has (up_block o x) (block_occurrences_of t)
    block_there x h =
        blocks_inside t.regions (at_root t) o (up_block o x) function.stands
        (subst (Has (up_block o x)) (sym inside_blocks) (has-map (up_block o) x (block_occurrences_of u) h))

    -- where it has its place in the flat view
    abbrev bs : Tree N kit_contents Blocks
    bs = function.sound_function.is_flat.view.blocks

    abbrev r : Reading kit_contents
    r = kit_reading leads numbered

    pub pair : (p : Op) → Has p (occurrences_of u) → Pair r (names_in bs) (at_root u) (names_in bs) p
        function.sound_function.flat
    pair p h =
        let view = function.sound_function.is_flat.view in
        pairs r (names_in bs) bs function.sound_function.flat (at_root u) view.are p
        (strip p (occurrences_in bs (at_root u)) (subst (λ z. Has p (occurrences_in z (at_root u))) view.region h))

    pub block_pair : (x : Bl) → Has x (block_occurrences_of u) → BlockPair r (names_in bs) (at_root u) (names_in bs)
        x function.sound_function.flat
    block_pair x h =
        let view = function.sound_function.is_flat.view in
        block_pairs r (names_in bs) bs function.sound_function.flat (at_root u) view.are x
        (strip x (block_occurrences_in bs (at_root u))
        (subst (λ z. Has x (block_occurrences_in z (at_root u))) view.region h))

    -- an operation of the module with the name of one that stands in the function
    pub same_up : (p q : Op) → Has p (occurrences_of u) → Has q (occurrences_of t) → q.head.name ≡ p.head.name →
        up o p ≡ q
    same_up p q h k e = one_operation t sound.names.operations (up o p) q (there p h) k (sym e)

    pub same_up_block : (x y : Bl) → Has x (block_occurrences_of u) → Has y (block_occurrences_of t) →
        y.label.name ≡ x.label.name → up_block o x ≡ y
    same_up_block x y h k e = one_block t sound.names.blocks (up_block o x) y (block_there x h) k (sym e)

    -- an operation of the module that makes a value of the function stands in it
    pub maker_up : (q : Op) (v : N.value) → Has q (occurrences_of t) → Has v (names_of q.head.results) →
        Has v (defined_in o.regions) → (p : Op) × Has p (occurrences_of u) × (up o p ≡ q)
    maker_up q v k m d =
        ⊎_elim
        (λ z. (
          z.it,
          z.stands,
          by_op (up o z.it) q
              (one_definer t sound.names.values (ByOp (up o z.it)) (ByOp q) v
              (op_definer t.regions (at_root t) (up o z.it) (there z.it z.stands)) (op_definer t.regions (at_root t)
              q k)
              z.value m),
        ))
        (λ z. absurd (op_or_block q (up_block o z.it)
        (one_definer t sound.names.values (ByOp q) (ByBlock (up_block o z.it)) v
        (op_definer t.regions (at_root t) q k)
        (block_definer t.regions (at_root t) (up_block o z.it) (block_there z.it z.stands)) m z.value)))
        (definer o.regions (at_root u) v d)

    -- a block of the module with an argument of the function stands in it
    pub taker_up : (y : Bl) (v : N.value) → Has y (block_occurrences_of t) → Has v (names_of y.label.arguments) →
        Has v (defined_in o.regions) → (x : Bl) × Has x (block_occurrences_of u) × (up_block o x ≡ y)
    taker_up y v k m d =
        ⊎_elim
        (λ z. absurd (op_or_block (up o z.it) y
        (one_definer t sound.names.values (ByOp (up o z.it)) (ByBlock y) v
        (op_definer t.regions (at_root t) (up o z.it) (there z.it z.stands)) (block_definer t.regions (at_root t) y k)
        z.value m)))
        (λ z. (
          z.it,
          z.stands,
          by_block (up_block o z.it) y
              (one_definer t sound.names.values (ByBlock (up_block o z.it)) (ByBlock y) v
              (block_definer t.regions (at_root t) (up_block o z.it) (block_there z.it z.stands))
              (block_definer t.regions (at_root t) y k) z.value m),
        ))
        (definer o.regions (at_root u) v d)

  -- two functions that define one value are the same
  pub one_function : (o p : Op) → Function o → Function p → (v : N.value) → Has v (defined_in o.regions) →
      Has v (defined_in p.regions) → p ≡ o
  one_function o p fo fp v d e =
      ⊎_elim
      (λ z.
      let q = maker_up o fo (up p z.it) v (there p fp z.it z.stands) z.value d in
      let a : o.head.name ∷ o.site.spot.around ≡ p.head.name ∷ p.site.spot.around =
      ap (λ l. l ++ (o.head.name ∷ o.site.spot.around)) (sym (pair o fo q.0 q.1).around)
      ∙ ap (λ (x : Op). x.site.spot.around) q.2
      ∙ ap (λ l. l ++ (p.head.name ∷ p.site.spot.around)) (pair p fp z.it z.stands).around in
      one_operation t sound.names.operations p o fp.stands fo.stands
      (sym (first_same o.head.name p.head.name o.site.spot.around p.site.spot.around a)))
      (λ z.
      let q = taker_up o fo (up_block p z.it) v (block_there p fp z.it z.stands) z.value d in
      let a : o.head ≡ p.head =
      sym (block_pair o fo q.0 q.1).same.owner ∙ ap (λ (x : Bl). x.spot.owner) q.2
      ∙ (block_pair p fp z.it z.stands).same.owner in
      one_operation t sound.names.operations p o fp.stands fo.stands (sym (ap (λ (h : Head N kit_contents). h.name) a)))
      (definer p.regions (at_root (tree_of p)) v e)

  -- an operation of the module that uses a value of the function stands in it
  pub user_up : (o : Op) → Function o → (q : Op) (v : N.value) (i : ℕ) → Has q (occurrences_of t) →
      slice_get q.head.operands i ≡ Some v → Has v (defined_in o.regions) →
      (p : Op) × Has p (occurrences_of (tree_of o)) × (up o p ≡ q)
  user_up o fo q v i k e d =
      ⊎_elim
      (λ (h : IsHolder {N = N} q).
      absurd (none_some v (sym (ap (λ l. slice_get l i) h.no_operands) ∙ e)))
      (λ (h : IsInFunction {N = N} t q).
      let p : Op = h.function in
      let fp : Function p = function_at p h.stands h.is in
      let z = has-from_map (up p) q (occurrences_of (tree_of p))
      (subst (Has q) (inside_up p fp) h.inside) in
      let own : Has v z.it.head.operands =
      has_get z.it.head.operands i v (ap (λ (x : Op). slice_get x.head.operands i) z.is ∙ e) in
      let in_p : Has v (defined_in p.regions) = fp.sound_function.is_typed.operands z.it v z.stands own in
      let same : p ≡ o = one_function o p fo fp v d in_p in
      let w = has-from_map (up o) q (occurrences_of (tree_of o))
      (subst (Has q) (inside_up o fo)
      (subst (λ (x : Op). Has q (occurrences_in x.regions (inner x.head x.site))) same h.inside)) in
      (w.it, w.stands, w.is))
      (sound.others q k)
