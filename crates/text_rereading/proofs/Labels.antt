-- The labels of what is printed are names of blocks, distinct in each region.
use Rattle.std.proofs.Common.{◌≡◌, ℕ, zero, suc, List, [], ◌∷◌, Some, slice_get, refl, sym, ap, subst, ◌∙◌}
use Rattle.ir_forest.specs.Closed.{AllDistinct, labels_of, IsLabelled, AreLabelled}
use Rattle.ir_print.specs.Pieces.{operation, a_region, block, Entity, entity, Entities, no_entity, an_entity}
use Rattle.ir_print.specs.Shown.{Saying}
use Rattle.ir_program.proofs.made.Frames.{same_handle}
use Rattle.ir_program.proofs.made.Lent.{same_key}
use Rattle.ir_program.specs.declared.handles.IRNode.TheVariants.{Operation as OperationNode, Region as RegionNode, BasicBlock as BlockNode}
use Rattle.ir_program.specs.declared.handles.Ptr.{Ptr}
use Rattle.ir_program.specs.declared.handles.Operation.{Operation}
use Rattle.ir_program.specs.declared.handles.Region.{Region}
use Rattle.ir_program.specs.declared.handles.BasicBlock.{BasicBlock}
use Rattle.ir_rereading.specs.Printable.{HasBlockName, HasBlockNames, HaveBlockNames}
use Rattle.text_dialect.specs.Printed.{label_front, block_name, IsBlockName, printed_names}
use Rattle.text_dialect.specs.Seen.{SeenOperation, SeenBlock, Seen}
use Rattle.text_dialect.specs.Standing.{Naming, HasOwnLabel, HasTree, HasRegionTree, HasBlockTree, HaveRegionTrees, HaveBlockTrees, HaveTrees}
use Rattle.text_rereading.proofs.BlockNames.{one_block}
use Rattle.text_rereading.specs.Places.{IsDirectlyIn, IsAnywhereIn, within, AreSmallInside, HasOwnPlaces}

none_distinct : AllDistinct {N = List ℕ} []
none_distinct i j x e k = absurd (cc)

one_seen : {X : Type 0} {x y : X} → Some x ≡ Some y → x ≡ y
one_seen e = cc

module _ {K A T : Type 0} (says : Saying K A T) (s : Seen K A T) where
  -- a block is named by its label
  own_name : (b : Ptr BasicBlock) (v : SeenBlock) (named label : List ℕ) → s.block b ≡ Some v → IsBlockName b v label
      → (printed_names s).block b named → named ≡ label
  own_name b v named label there labelled name =
      let same : name.0 ≡ v = (let e : Some name.0 ≡ Some v = sym name.1 ∙ there in cc) in
      name.2 ∙ ap (λ (w : SeenBlock). block_name (label_front w.label) b.key.slot b.key.version) same ∙ sym labelled

  -- ---- labels of a region

  -- a block of the list, and its name, at a place
  record BlockAt (bs : List (Ptr BasicBlock)) (i : ℕ) (x : List ℕ) : Type 0 where
    at_block : Ptr BasicBlock
    listed : slice_get bs i ≡ Some at_block
    view : SeenBlock
    there : s.block at_block ≡ Some view
    name : x ≡ block_name (label_front view.label) at_block.key.slot at_block.key.version

  label_at : (us : Entities (List ℕ)) (bs : List (Ptr BasicBlock)) → HaveBlockTrees says (printed_names s) IsBlockName s bs us
      → (i : ℕ) (x : List ℕ) → slice_get (labels_of us) i ≡ Some x → BlockAt bs i x
  label_at no_entity bs h i x e = absurd (cc)
  label_at (an_entity u us) [] h i x e = absurd h
  label_at (an_entity (entity (block named label arguments) ts) us) (b ∷ bs) h zero x e =
      record
      { at_block = b; listed = refl; view = h.0.0; there = h.0.1; name = (let is : label ≡ x = cc in sym is ∙ h.0.2) }
  label_at (an_entity (entity (block named label arguments) ts) us) (b ∷ bs) h (suc i) x e =
      let m = label_at us bs h.1 i x e in
      record { at_block = m.at_block; listed = m.listed; view = m.view; there = m.there; name = m.name }
  label_at (an_entity (entity (operation kind results used successors pieces) ts) us) (b ∷ bs) h i x e = absurd h.0
  label_at (an_entity (entity a_region ts) us) (b ∷ bs) h i x e = absurd h.0

  distinct_labels : HasOwnPlaces s → (root : Ptr Operation) → AreSmallInside s root → (us : Entities (List ℕ)) (r : Ptr Region) (bs : List (Ptr BasicBlock)) → s.region r ≡ Some bs
      → IsAnywhereIn s (OperationNode root) (RegionNode r)
      → HaveBlockTrees says (printed_names s) IsBlockName s bs us → AllDistinct (labels_of us)
  distinct_labels places root small us r bs there inside h i j x e k =
      let a = label_at us bs h i x e in
      let c = label_at us bs h j x k in
      let one : IsDirectlyIn s (BlockNode a.at_block) (RegionNode r) i = (bs, there, a.listed) in
      let two : IsDirectlyIn s (BlockNode c.at_block) (RegionNode r) j = (bs, there, c.listed) in
      let fits =
      small (BlockNode a.at_block) (within (BlockNode a.at_block) (RegionNode r) i one inside) a.view a.there in
      let fit =
      small (BlockNode c.at_block) (within (BlockNode c.at_block) (RegionNode r) j two inside) c.view c.there in
      let parts =
      one_block (label_front a.view.label)
      (label_front c.view.label) a.at_block.key.slot c.at_block.key.slot a.at_block.key.version c.at_block.key.version
      fits.0 fit.0 fits.1 fit.1 (sym a.name ∙ c.name) in
      let same : a.at_block ≡ c.at_block =
      same_handle a.at_block c.at_block (same_key a.at_block.key c.at_block.key parts.0 parts.1) in
      (places.once (BlockNode c.at_block) (RegionNode r) (RegionNode r) i j
      (subst (λ b. IsDirectlyIn s (BlockNode b) (RegionNode r) i) same one) two).1

  no_labels_regions : (us : Entities (List ℕ)) (rs : List (Ptr Region))
      → HaveRegionTrees says (printed_names s) IsBlockName s rs us → labels_of us ≡ []
  no_labels_regions no_entity rs h = refl
  no_labels_regions (an_entity u us) [] h = absurd h
  no_labels_regions (an_entity (entity a_region ts) us) (r ∷ rs) h = no_labels_regions us rs h.1
  no_labels_regions (an_entity (entity (operation kind results used successors pieces) ts) us) (r ∷ rs) h = absurd h.0
  no_labels_regions (an_entity (entity (block named label arguments) ts) us) (r ∷ rs) h = absurd h.0

  no_labels_trees : (us : Entities (List ℕ)) (ps : List (Ptr Operation)) → HaveTrees says (printed_names s) IsBlockName s ps us
      → labels_of us ≡ []
  no_labels_trees no_entity ps h = refl
  no_labels_trees (an_entity u us) [] h = absurd h
  no_labels_trees (an_entity (entity (operation kind results used successors pieces) ts) us) (p ∷ ps) h =
      no_labels_trees us ps h.1
  no_labels_trees (an_entity (entity a_region ts) us) (p ∷ ps) h = absurd h.0
  no_labels_trees (an_entity (entity (block named label arguments) ts) us) (p ∷ ps) h = absurd h.0

-- The tree of an operation, and the tree that it is printed as, side by side.
module _ {K A T N : Type 0} (says : Saying K A T) (Named : Naming N) (s : Seen K A T)
    (places : HasOwnPlaces s)
    (root : Ptr Operation) (small : AreSmallInside s root) where
  mutual
    -- the labels of what an operation is printed as are names of blocks, each with the block's own label, and are distinct in each
    -- region
    pub labelled_tree : (t : Entity N) (u : Entity (List ℕ)) (p : Ptr Operation) → IsAnywhereIn s (OperationNode root) (OperationNode p)
        → HasTree says Named HasOwnLabel s p t → HasTree says (printed_names s) IsBlockName s p u → HasBlockNames t u × IsLabelled u
    labelled_tree (entity (operation kind results used successors pieces) ts) (entity (operation number shown named labels said) us) p i g h =
        let same : g.0 ≡ h.0 = one_seen (sym g.1 ∙ h.1) in
        let rest =
        labelled_regions ts us h.0.regions (λ k r e. within (RegionNode r) (OperationNode p) k (h.0, h.1, e) i)
        (subst (λ (o : SeenOperation K A). HaveRegionTrees says Named HasOwnLabel s o.regions ts) same g.3) h.3 in (
          (tt, rest.0),
          (subst AllDistinct (sym (no_labels_regions says s us h.0.regions h.3)) none_distinct, rest.1),
        )
    labelled_tree (entity (operation kind results used successors pieces) ts) (entity a_region us) p i g h = absurd h
    labelled_tree (entity (operation kind results used successors pieces) ts) (entity (block named label arguments) us) p i g h = absurd h
    labelled_tree (entity a_region ts) u p i g h = absurd g
    labelled_tree (entity (block b own xs) ts) u p i g h = absurd g

    labelled_regions : (ts : Entities N) (us : Entities (List ℕ)) (rs : List (Ptr Region))
        → ((k : ℕ) (r : Ptr Region) → slice_get rs k ≡ Some r → IsAnywhereIn s (OperationNode root) (RegionNode r))
        → HaveRegionTrees says Named HasOwnLabel s rs ts → HaveRegionTrees says (printed_names s) IsBlockName s rs us
        → HaveBlockNames ts us × AreLabelled us
    labelled_regions no_entity no_entity rs inside g h = (tt, tt)
    labelled_regions no_entity (an_entity u us) [] inside g h = absurd h
    labelled_regions no_entity (an_entity u us) (r ∷ rs) inside g h = absurd g
    labelled_regions (an_entity t ts) us [] inside g h = absurd g
    labelled_regions (an_entity t ts) no_entity (r ∷ rs) inside g h = absurd h
    labelled_regions (an_entity t ts) (an_entity u us) (r ∷ rs) inside g h =
        let a = labelled_region t u r (inside 0 r refl) g.0 h.0 in
        let b = labelled_regions ts us rs (λ k q e. inside (suc k) q e) g.1 h.1 in
        ((a.0, b.0), (a.1, b.1))

    labelled_region : (t : Entity N) (u : Entity (List ℕ)) (r : Ptr Region) → IsAnywhereIn s (OperationNode root) (RegionNode r)
        → HasRegionTree says Named HasOwnLabel s r t → HasRegionTree says (printed_names s) IsBlockName s r u → HasBlockNames t u × IsLabelled u
    labelled_region (entity a_region ts) (entity a_region us) r i g h =
        let same : g.0 ≡ h.0 = one_seen (sym g.1 ∙ h.1) in
        let rest =
        labelled_blocks ts us h.0 (λ k b e. within (BlockNode b) (RegionNode r) k (h.0, h.1, e) i)
        (subst (λ (bs : List (Ptr BasicBlock)). HaveBlockTrees says Named HasOwnLabel s bs ts) same g.2) h.2 in
        ((tt, rest.0), (distinct_labels says s places root small us r h.0 h.1 i h.2, rest.1))
    labelled_region (entity a_region ts) (entity (operation number shown named labels said) us) r i g h = absurd h
    labelled_region (entity a_region ts) (entity (block named label arguments) us) r i g h = absurd h
    labelled_region (entity (operation kind results used successors pieces) ts) u r i g h = absurd g
    labelled_region (entity (block b own xs) ts) u r i g h = absurd g

    labelled_blocks : (ts : Entities N) (us : Entities (List ℕ)) (bs : List (Ptr BasicBlock))
        → ((k : ℕ) (b : Ptr BasicBlock) → slice_get bs k ≡ Some b → IsAnywhereIn s (OperationNode root) (BlockNode b))
        → HaveBlockTrees says Named HasOwnLabel s bs ts → HaveBlockTrees says (printed_names s) IsBlockName s bs us
        → HaveBlockNames ts us × AreLabelled us
    labelled_blocks no_entity no_entity bs inside g h = (tt, tt)
    labelled_blocks no_entity (an_entity u us) [] inside g h = absurd h
    labelled_blocks no_entity (an_entity u us) (b ∷ bs) inside g h = absurd g
    labelled_blocks (an_entity t ts) us [] inside g h = absurd g
    labelled_blocks (an_entity t ts) no_entity (b ∷ bs) inside g h = absurd h
    labelled_blocks (an_entity t ts) (an_entity u us) (b ∷ bs) inside g h =
        let a = labelled_block t u b (inside 0 b refl) g.0 h.0 in
        let c = labelled_blocks ts us bs (λ k q e. inside (suc k) q e) g.1 h.1 in
        ((a.0, c.0), (a.1, c.1))

    labelled_block : (t : Entity N) (u : Entity (List ℕ)) (b : Ptr BasicBlock) → IsAnywhereIn s (OperationNode root) (BlockNode b)
        → HasBlockTree says Named HasOwnLabel s b t → HasBlockTree says (printed_names s) IsBlockName s b u → HasBlockNames t u × IsLabelled u
    labelled_block (entity (block m own xs) ts) (entity (block named label arguments) us) b i g h =
        let v = h.0 in
        let fit = small (BlockNode b) i v h.1 in
        let seen : g.0 ≡ v = one_seen (sym g.1 ∙ h.1) in
        let given : HasOwnLabel b v own = subst (λ (w : SeenBlock). HasOwnLabel b w own) seen g.2 in
        let rest =
        labelled_trees ts us v.operations (λ k p e. within (OperationNode p) (BlockNode b) k (v, h.1, e) i)
        (subst (λ (w : SeenBlock). HaveTrees says Named HasOwnLabel s w.operations ts) seen g.5) h.5 in
        let same : named ≡ label = own_name says s b v named label h.1 h.2 h.3 in
        let name : HasBlockName own label =
        record { given = v.label; own = given.labelled; slot = b.key.slot; version = b.key.version; small = (fit.0, fit.1); spelt = h.2 } in (
          ((sym same, subst (HasBlockName own) (sym same) name), rest.0),
          (subst AllDistinct (sym (no_labels_trees says s us v.operations h.5)) none_distinct, rest.1),
        )
    labelled_block (entity (block m own xs) ts) (entity (operation number shown named labels said) us) b i g h = absurd h
    labelled_block (entity (block m own xs) ts) (entity a_region us) b i g h = absurd h
    labelled_block (entity (operation kind results used successors pieces) ts) u b i g h = absurd g
    labelled_block (entity a_region ts) u b i g h = absurd g

    labelled_trees : (ts : Entities N) (us : Entities (List ℕ)) (ps : List (Ptr Operation))
        → ((k : ℕ) (p : Ptr Operation) → slice_get ps k ≡ Some p → IsAnywhereIn s (OperationNode root) (OperationNode p))
        → HaveTrees says Named HasOwnLabel s ps ts → HaveTrees says (printed_names s) IsBlockName s ps us
        → HaveBlockNames ts us × AreLabelled us
    labelled_trees no_entity no_entity ps inside g h = (tt, tt)
    labelled_trees no_entity (an_entity u us) [] inside g h = absurd h
    labelled_trees no_entity (an_entity u us) (p ∷ ps) inside g h = absurd g
    labelled_trees (an_entity t ts) us [] inside g h = absurd g
    labelled_trees (an_entity t ts) no_entity (p ∷ ps) inside g h = absurd h
    labelled_trees (an_entity t ts) (an_entity u us) (p ∷ ps) inside g h =
        let a = labelled_tree t u p (inside 0 p refl) g.0 h.0 in
        let b = labelled_trees ts us ps (λ k q e. inside (suc k) q e) g.1 h.1 in
        ((a.0, b.0), (a.1, b.1))
