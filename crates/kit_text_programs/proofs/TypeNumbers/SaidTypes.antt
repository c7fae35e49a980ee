-- Types that a text says are shown by handles.
use Rattle.std.proofs.Common.{ℕ, List, [], ◌∷◌, ◌++◌, map, refl}
use Rattle.ir_base.specs.declared.types.TypeHandle.{TypeHandle}
use Rattle.ir_names.specs.Tree.{Trees, node, no_tree, a_tree}
use Rattle.ir_print.specs.Pieces.{value_of_kind, Pieces, ValueTree, operation, a_region, block, Entity, entity}
use Rattle.ir_print.specs.Pieces.{Entities, no_entity, an_entity}
use Rattle.ir_print.specs.Shown.{Said, Saying, Pairs, ShowsAll, ShowsType}
use Rattle.ir_program.specs.Program.{TypedValue}
use Rattle.ir_program.specs.declared.handles.BasicBlock.{BasicBlock}
use Rattle.ir_program.specs.declared.handles.Operation.{Operation}
use Rattle.ir_program.specs.declared.handles.Ptr.{Ptr}
use Rattle.ir_program.specs.declared.handles.Region.{Region}
use Rattle.text_dialect.specs.Seen.{SeenBlock, Seen}
use Rattle.text_dialect.specs.Standing.{HasDefinition, HasTree, HasRegionTree, HasBlockTree, HaveRegionTrees}
use Rattle.text_dialect.specs.Standing.{HaveBlockTrees, HaveTrees, Naming}
use Rattle.ir_print.specs.declared.format.ValueSort.TheVariants as sorts
use Rattle.kit_text_programs.specs.SameLaws.{types_among, types_in_text, types_in_texts}

-- pairs of the one lists, and then of the others
pairs_append : {X Y : Type 0} (R : X → Y → Type 0) (xs us : List X) (ys vs : List Y) → Pairs R xs ys → Pairs R us vs →
    Pairs R (xs ++ us) (ys ++ vs)
pairs_append R [] us [] vs h k = k
pairs_append R [] us (y ∷ ys) vs h k = absurd h
pairs_append R (x ∷ xs) us [] vs h k = absurd h
pairs_append R (x ∷ xs) us (y ∷ ys) vs h k = (h.0, pairs_append R xs us ys vs h.1 k)

module _ {K A T : Type 0} (says : Saying K A T) (types : List T) where
  -- handles that show these types, one each
  abbrev pub HaveHandles : List ValueTree → Type 0
  HaveHandles rs = (hs : List TypeHandle) × Pairs (ShowsType says types) hs rs

  -- of two lists
  pub handles_of_both : (rs qs : List ValueTree) → HaveHandles rs → HaveHandles qs → HaveHandles (rs ++ qs)
  handles_of_both rs qs h k = (h.0 ++ k.0, pairs_append (ShowsType says types) h.0 k.0 rs qs h.1 k.1)

  -- of results or arguments
  defined_handles : (Named : Naming ℕ) (vs : List TypedValue) (rs : List (ℕ × ValueTree)) →
      Pairs (HasDefinition says Named types) vs rs → HaveHandles (map (λ (r : ℕ × ValueTree). r.1) rs)
  defined_handles Named [] [] h = ([], tt)
  defined_handles Named [] (r ∷ rs) h = absurd h
  defined_handles Named (v ∷ vs) [] h = absurd h
  defined_handles Named (v ∷ vs) (r ∷ rs) h =
      let more = defined_handles Named vs rs h.1 in
      (v.ty ∷ more.0, (h.0.1, more.1))

  -- of pieces
  pieces_handles : (us : Trees (Said A)) (ts : Pieces) → ShowsAll says types us ts → HaveHandles (types_among ts)
  pieces_handles no_tree no_tree h = ([], tt)
  pieces_handles no_tree (a_tree t ts) h = absurd h
  pieces_handles (a_tree u us) no_tree h = absurd h
  pieces_handles (a_tree u us) (a_tree (node (value_of_kind sorts.«Type» n) vs) ts) h =
      let more = pieces_handles us ts h.1 in
      let first = h.0 in
      (first.0 ∷ more.0, ((first.0, first.1, first.2, refl, first.4, first.5, first.6), more.1))
  pieces_handles (a_tree u us) (a_tree (node p vs) ts) h = pieces_handles us ts h.1

module _ {K A T : Type 0} (says : Saying K A T) (Named : Naming ℕ) (Labels : Ptr BasicBlock → SeenBlock → List ℕ → Type 0)
    (s : Seen K A T) where
  mutual
    -- of an operation
    pub operation_handles : (t : Entity ℕ) (p : Ptr Operation) → HasTree says Named Labels s p t →
        HaveHandles says s.types (types_in_text t)
    operation_handles (entity (operation kind results used successors pieces) ts) p (o, at, head, inside) =
        let results_too = defined_handles says s.types Named o.results results head.defines in
        let pieces_too = pieces_handles says s.types head.said pieces head.shown in
        handles_of_both says s.types (map (λ (r : ℕ × ValueTree). r.1) results ++ types_among pieces) (types_in_texts ts)
        (handles_of_both says s.types (map (λ (r : ℕ × ValueTree). r.1) results) (types_among pieces) results_too pieces_too)
        (regions_handles ts o.regions inside)
    operation_handles (entity a_region ts) p h = absurd h
    operation_handles (entity (block named label arguments) ts) p h = absurd h

    -- of a region
    region_handles : (t : Entity ℕ) (r : Ptr Region) → HasRegionTree says Named Labels s r t →
        HaveHandles says s.types (types_in_text t)
    region_handles (entity a_region ts) r (bs, at, inside) = blocks_handles ts bs inside
    region_handles (entity (operation kind results used successors pieces) ts) r h = absurd h
    region_handles (entity (block named label arguments) ts) r h = absurd h

    -- of a block
    block_handles : (t : Entity ℕ) (b : Ptr BasicBlock) → HasBlockTree says Named Labels s b t →
        HaveHandles says s.types (types_in_text t)
    block_handles (entity (block named label arguments) ts) b (v, at, labelled, numbered, defines, inside) =
        handles_of_both says s.types (map (λ (r : ℕ × ValueTree). r.1) arguments) (types_in_texts ts)
        (defined_handles says s.types Named v.arguments arguments defines) (operations_handles ts v.operations inside)
    block_handles (entity a_region ts) b h = absurd h
    block_handles (entity (operation kind results used successors pieces) ts) b h = absurd h

    -- of regions
    regions_handles : (ts : Entities ℕ) (rs : List (Ptr Region)) → HaveRegionTrees says Named Labels s rs ts →
        HaveHandles says s.types (types_in_texts ts)
    regions_handles no_entity [] h = ([], tt)
    regions_handles no_entity (r ∷ rs) h = absurd h
    regions_handles (an_entity t ts) [] h = absurd h
    regions_handles (an_entity t ts) (r ∷ rs) h =
        handles_of_both says s.types (types_in_text t) (types_in_texts ts) (region_handles t r h.0) (regions_handles ts rs h.1)

    -- of blocks
    blocks_handles : (ts : Entities ℕ) (bs : List (Ptr BasicBlock)) → HaveBlockTrees says Named Labels s bs ts →
        HaveHandles says s.types (types_in_texts ts)
    blocks_handles no_entity [] h = ([], tt)
    blocks_handles no_entity (b ∷ bs) h = absurd h
    blocks_handles (an_entity t ts) [] h = absurd h
    blocks_handles (an_entity t ts) (b ∷ bs) h =
        handles_of_both says s.types (types_in_text t) (types_in_texts ts) (block_handles t b h.0) (blocks_handles ts bs h.1)

    -- of operations
    operations_handles : (ts : Entities ℕ) (ps : List (Ptr Operation)) → HaveTrees says Named Labels s ps ts →
        HaveHandles says s.types (types_in_texts ts)
    operations_handles no_entity [] h = ([], tt)
    operations_handles no_entity (p ∷ ps) h = absurd h
    operations_handles (an_entity t ts) [] h = absurd h
    operations_handles (an_entity t ts) (p ∷ ps) h =
        handles_of_both says s.types (types_in_text t) (types_in_texts ts) (operation_handles t p h.0)
        (operations_handles ts ps h.1)
