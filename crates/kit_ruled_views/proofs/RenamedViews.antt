-- The flat view of a tree under other names.
use Rattle.std.proofs.Common.{◌≡◌, inl, inr, ⊎_elim, ◌<◌, ℕ, zero, suc, List, [], ◌∷◌, ◌++◌, map, Some, option_map}
use Rattle.std.proofs.Common.{slice_get, refl, sym, ap, ◌∙◌, subst}
use Rattle.ir_trees.specs.Names.{Names, Contents}
use Rattle.ir_trees.specs.Renames.{Maps, KeepsApart, IsOneToOne, names_of, rename_head, rename, rename_root, values_at}
use Rattle.ir_trees.specs.Renames.{values_in, values_of, blocks_in, blocks_of}
use Rattle.ir_trees.specs.Searched.{AreDistinct, operation_names}
use Rattle.ir_trees.specs.Trees.{Head, Operations, Blocks, Regions, Sort, Tree, Root, end, operation, block, region}
use Rattle.ir_trees.proofs.Renamed.{operation_names_renamed}
use Rattle.opt_trees.specs.Occurrences.{Has, defined_in}
use Rattle.opt_trees.proofs.FactsRenamed.{types-map}
use Rattle.opt_trees.proofs.Lists.{map-map, map-append, names-map, at-map, length-map}
use Rattle.opt_trees.proofs.NoneDead.{has-append, has-left, has-right}
use Rattle.opt_trees.proofs.Trees.{values_renamed}
use Rattle.kit_ops.specs.declared.kinds.KitOp.{KitOp}
use Rattle.kit_ops.specs.declared.kinds.KitOp.TheVariants as ops
use Rattle.kit_behaviour.specs.Facts.{all_forwarded}
use Rattle.kit_behaviour.specs.Machine.{AllEdges, Edge, Plain, Nonzero, Cases, Op, Const, Calc, Emit, Call, Branch}
use Rattle.kit_behaviour.specs.Machine.{Return, Fun, ops_left, arguments_of}
use Rattle.kit_behaviour.specs.Renaming.{rename_edge, rename_op, same_block, rename_block, rename_fun}
use Rattle.kit_behaviour.specs.Rules.{EdgeFits, EdgesOfOpFit, AllEdgesFit}
use Rattle.kit_behaviour.specs.Scopes.{SameLength}
use Rattle.kit_views.specs.FlatView.{kind_of, IsOf, IsOp, AreOps, AreFlatBlocks, names_in, FlattensTo}
use Rattle.kit_views.specs.Reading.{Reading}
use Rattle.kit_views.proofs.Lists.{at_has, has_get}
use Rattle.kit_ruled_views.proofs.SmallLists.{at_mapped}

-- ---- lists

-- where a map keeps what is listed apart, distinct names stay distinct
distinct_under : {X Y : Type 0} (f : X → Y) (xs zs : List X) → KeepsApart f zs → ((x : X) → Has x xs → Has x zs)
    → AreDistinct xs → AreDistinct (map f xs)
distinct_under f xs zs apart sub distinct j k y hj hk =
    let a = at_mapped f xs j y hj in
    let b = at_mapped f xs k y hk in
    let in_a = at_has zs a.0 (sub a.0 (has_get xs j a.0 a.1)) in
    let in_b = at_has zs b.0 (sub b.0 (has_get xs k b.0 b.1)) in
    let same = apart a.0 b.0 (in_a.place, in_a.is) (in_b.place, in_b.is) (sym a.2 ∙ b.2) in
    distinct j k a.0 a.1 (b.1 ∙ ap Some (sym same))

same_length_under : {X Y : Type 0} (f : X → Y) (ts gs : List X) → SameLength ts gs → SameLength (map f ts) (map f gs)
same_length_under f [] [] s = tt
same_length_under f [] (g ∷ gs) s = absurd s
same_length_under f (t ∷ ts) [] s = absurd s
same_length_under f (t ∷ ts) (g ∷ gs) s = same_length_under f ts gs s

module _ {N : Names} {S : Contents} where
  block_listed : (bs : Tree N S Blocks) (n : N.block) → Has n (names_in bs) → Has n (blocks_in bs)
  block_listed end n has = absurd has
  block_listed (block l os rest) n has = ⊎_elim
      (λ e. inl e)
      (λ more. inr (has-right n (blocks_in os) (blocks_in rest) (block_listed rest n more)))
      has

  pub value_listed : {s : Sort} (t : Tree N S s) (v : N.value) → Has v (defined_in t) → Has v (values_in t)
  value_listed end v has = absurd has
  value_listed (operation h rs rest) v has = ⊎_elim
      (λ here. has-left v (values_at h) (values_in rs ++ values_in rest)
      (has-left v (names_of h.results) h.operands here))
      (λ more. has-right v (values_at h) (values_in rs ++ values_in rest) (⊎_elim
      (λ a. has-left v (values_in rs) (values_in rest) (value_listed rs v a))
      (λ b. has-right v (values_in rs) (values_in rest) (value_listed rest v b))
      (has-append v (defined_in rs) (defined_in rest) more)))
      (has-append v (names_of h.results) (defined_in rs ++ defined_in rest) has)
  value_listed (block l os rest) v has = ⊎_elim
      (λ here. has-left v (names_of l.arguments) (values_in os ++ values_in rest) here)
      (λ more. has-right v (names_of l.arguments) (values_in os ++ values_in rest) (⊎_elim
      (λ a. has-left v (values_in os) (values_in rest) (value_listed os v a))
      (λ b. has-right v (values_in os) (values_in rest) (value_listed rest v b))
      (has-append v (defined_in os) (defined_in rest) more)))
      (has-append v (names_of l.arguments) (defined_in os ++ defined_in rest) has)
  value_listed (region bs rest) v has = ⊎_elim
      (λ a. has-left v (values_in bs) (values_in rest) (value_listed bs v a))
      (λ b. has-right v (values_in bs) (values_in rest) (value_listed rest v b))
      (has-append v (defined_in bs) (defined_in rest) has)

-- ---- edges of flat functions

module _ {V W : Type 0} (f : V → W) where
  abbrev edge_under : Edge V → Edge W
  edge_under = rename_edge f same_block

  abbrev op_under : Op V → Op W
  op_under = rename_op f same_block

  forwarded_under : (es : List (Edge V)) → all_forwarded (map edge_under es) ≡ map f (all_forwarded es)
  forwarded_under [] = refl
  forwarded_under (e ∷ es) =
      ap (λ l. map f e.forwards ++ l) (forwarded_under es) ∙ sym (map-append f e.forwards (all_forwarded es))

  arguments_under : (ks : Fun V) (b : ℕ)
      → arguments_of (slice_get (map (rename_block f) ks) b) ≡ map f (arguments_of (slice_get ks b))
  arguments_under [] b = refl
  arguments_under (k ∷ ks) zero = refl
  arguments_under (k ∷ ks) (suc b) = arguments_under ks b

  module _ (ks : Fun V) where
    abbrev all_under : Fun W
    all_under = map (rename_block f) ks

    edge_fits : (e : Edge V) → EdgeFits (Some ks) e → EdgeFits (Some all_under) (edge_under e)
    edge_fits e fits = record {
      count = subst (λ l. SameLength l (map f e.forwards)) (sym (arguments_under ks e.target))
          (same_length_under f (arguments_of (slice_get ks e.target)) e.forwards fits.count);
      leads = subst (λ n. e.target < n) (sym (length-map (rename_block f) ks)) fits.leads;
    }

    edges_fit : (es : List (Edge V)) → AllEdges (EdgeFits (Some ks)) es
        → AllEdges (EdgeFits (Some all_under)) (map edge_under es)
    edges_fit [] fits = tt
    edges_fit (e ∷ es) fits = (edge_fits e fits.0, edges_fit es fits.1)

    op_fits : (p : Op V) → EdgesOfOpFit (Some ks) p → EdgesOfOpFit (Some all_under) (op_under p)
    op_fits (Branch s xs e es) fits = (edge_fits e fits.0, edges_fit es fits.1)
    op_fits (Const v n) fits = tt
    op_fits (Calc a w v x y) fits = tt
    op_fits (Emit x) fits = tt
    op_fits (Call rs c xs) fits = tt
    op_fits (Return xs) fits = tt

    ops_fit : (ps : List (Op V)) → AllEdgesFit (Some ks) ps → AllEdgesFit (Some all_under) (map op_under ps)
    ops_fit [] fits = tt
    ops_fit (p ∷ ps) fits = (op_fits p fits.0, ops_fit ps fits.1)

    blocks_fit : (js : Fun V) → ((b : ℕ) → AllEdgesFit (Some ks) (ops_left (slice_get js b) 0))
        → (b : ℕ) → AllEdgesFit (Some all_under) (ops_left (slice_get (map (rename_block f) js) b) 0)
    blocks_fit [] fits b = tt
    blocks_fit (k ∷ js) fits zero = ops_fit k.ops (fits 0)
    blocks_fit (k ∷ js) fits (suc b) = blocks_fit js (λ n. fits (suc n)) b

-- ---- trees

module _ {N M : Names} {S : Contents} (r : Reading S) (m : Maps N M) where
  targets_under : (names : List N.block) (bs : List N.block) (es : List (Edge N.value))
      → map Some bs ≡ map (λ (e : Edge N.value). slice_get names e.target) es
      → map Some (map m.block bs)
      ≡ map (λ (e : Edge M.value). slice_get (map m.block names) e.target) (map (edge_under m.value) es)
  targets_under names bs es h =
      map-map Some m.block bs ∙ sym (map-map (option_map m.block) Some bs) ∙ ap (map (option_map m.block)) h ∙ after es
    where
      after : (es : List (Edge N.value))
          → map (option_map m.block) (map (λ (e : Edge N.value). slice_get names e.target) es)
          ≡ map (λ (e : Edge M.value). slice_get (map m.block names) e.target) (map (edge_under m.value) es)
      after [] = refl
      after (e ∷ es) = λ i. sym (at-map m.block names e.target) i ∷ after es i

  module _ (names : List N.block) where
    of_under : (h : Head N S) (k : KitOp) (rs xs : List N.value) (es : List (Edge N.value)) → IsOf r names h k rs xs es
        → IsOf r (map m.block names) (rename_head m h) k (map m.value rs) (map m.value xs) (map (edge_under m.value) es)
    of_under h k rs xs es is = record {
      kind = is.kind;
      results = names-map m.value h.results ∙ ap (map m.value) is.results;
      operands = ap (map m.value) is.operands;
      successors = targets_under names h.successors es is.successors;
    }

    branch_under : (h : Head N S) (k : KitOp) (xs : List N.value) (es : List (Edge N.value))
        → IsOf r names h k [] (xs ++ all_forwarded es) es
        → IsOf r (map m.block names) (rename_head m h) k []
        (map m.value xs ++ all_forwarded (map (edge_under m.value) es)) (map (edge_under m.value) es)
    branch_under h k xs es is =
        let e : map m.value (xs ++ all_forwarded es) ≡ map m.value xs ++ all_forwarded (map (edge_under m.value) es) =
        map-append m.value xs (all_forwarded es) ∙ ap (λ l. map m.value xs ++ l) (sym (forwarded_under m.value es)) in
        subst (λ l. IsOf r (map m.block names) (rename_head m h) k [] l (map (edge_under m.value) es)) e
        (of_under h k [] (xs ++ all_forwarded es) es is)

    under_op : (h : Head N S) (p : Op N.value) → IsOp r names h p
        → IsOp r (map m.block names) (rename_head m h) (op_under m.value p)
    under_op h (Const v n) is = (of_under h ops.Constant (v ∷ []) [] [] is.0, is.1)
    under_op h (Calc f w v x y) is = (
      of_under h (kind_of f) (v ∷ []) (x ∷ y ∷ []) [] is.0,
      ap (map r.width) (types-map m.value h.results) ∙ is.1,
    )
    under_op h (Emit x) is = of_under h ops.Emit [] (x ∷ []) [] is
    under_op h (Call rs c xs) is = (of_under h ops.Call rs xs [] is.0, is.1)
    under_op h (Branch Plain xs e es) is = (
      branch_under h ops.Br xs (e ∷ es) is.0,
      length-map m.value xs ∙ is.1,
      length-map (edge_under m.value) es ∙ is.2,
    )
    under_op h (Branch Nonzero xs e es) is = (
      branch_under h ops.CondBr xs (e ∷ es) is.0,
      length-map m.value xs ∙ is.1,
      length-map (edge_under m.value) es ∙ is.2,
      is.3 ∙ sym (length-map m.value e.forwards),
    )
    under_op h (Branch (Cases ns) xs e es) is = is
    under_op h (Return xs) is = of_under h ops.Return [] xs [] is

    under_ops : (os : Tree N S Operations) (ps : List (Op N.value)) → AreOps r names os ps
        → AreOps r (map m.block names) (rename m os) (map (op_under m.value) ps)
    under_ops end [] are = tt
    under_ops end (p ∷ ps) are = absurd are
    under_ops (operation h rs more) [] are = absurd are
    under_ops (operation h rs more) (p ∷ ps) are =
        (ap (λ (z : Tree N S Regions). rename m z) are.0, under_op h p are.1, under_ops more ps are.2)

    under_blocks : (bs : Tree N S Blocks) (ks : Fun N.value) → AreFlatBlocks r names bs ks
        → AreFlatBlocks r (map m.block names) (rename m bs) (map (rename_block m.value) ks)
    under_blocks end [] are = tt
    under_blocks end (k ∷ ks) are = absurd are
    under_blocks (block l os more) [] are = absurd are
    under_blocks (block l os more) (k ∷ ks) are = (
      names-map m.value l.arguments ∙ ap (map m.value) are.0,
      under_ops os k.ops are.1,
      under_blocks more ks are.2,
    )

  names_under : (bs : Tree N S Blocks) → names_in (rename m bs) ≡ map m.block (names_in bs)
  names_under end = refl
  names_under (block l os more) = ap (λ ns. m.block l.name ∷ ns) (names_under more)

  -- a tree under names that are kept apart has its flat view under these names
  pub flat_under : (t : Root N S) (f : Fun N.value) → IsOneToOne m t → FlattensTo r t f
      → (g : Fun M.value) × (rename_fun m.value (Some f) ≡ Some g) × FlattensTo r (rename_root m t) g
  flat_under t f one is =
      let bs : Tree N S Blocks = is.view.blocks in
      let in_tree : (n : N.block) → Has n (names_in bs) → Has n (blocks_of t) =
      λ n has. has-right n t.head.successors (blocks_in t.regions)
      (subst (λ (rs : Tree N S Regions). Has n (blocks_in rs)) (sym is.view.region)
      (has-left n (blocks_in bs) [] (block_listed bs n has))) in (
        map (rename_block m.value) f,
        refl,
        record {
          view = record {
            function = is.view.function;
            no_operands = ap (map m.value) is.view.no_operands;
            blocks = rename m bs;
            region = ap (λ (rs : Tree N S Regions). rename m rs) is.view.region;
            are = subst (λ ns. AreFlatBlocks r ns (rename m bs) (map (rename_block m.value) f)) (sym (names_under bs))
                (under_blocks (names_in bs) bs f is.view.are);
          };
          operations = subst AreDistinct (sym (operation_names_renamed m t))
              (distinct_under m.operation (operation_names t) (operation_names t) one.operations (λ o has. has)
              is.operations);
          blocks = subst AreDistinct (sym (names_under bs))
              (distinct_under m.block (names_in bs) (blocks_of t) one.blocks in_tree is.blocks);
          values = subst AreDistinct (sym (values_renamed m t.regions))
              (distinct_under m.value (defined_in t.regions) (values_of t) one.values
              (λ v has. has-right v (values_at t.head) (values_in t.regions) (value_listed t.regions v has)) is.values);
          edges = blocks_fit m.value f f is.edges;
        },
      )
