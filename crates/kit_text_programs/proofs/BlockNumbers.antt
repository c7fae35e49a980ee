-- What stands for a closed text that numbers its blocks in their order stands for it where the blocks of its own tree are
-- numbered so: these come once each.
use Rattle.std.proofs.Common.{◌≡◌, inl, ℕ, zero, suc, ◌+◌, List, [], ◌∷◌, ◌++◌, map, length, Some, slice_get, option_map, refl}
use Rattle.std.proofs.Common.{sym, ap, ◌∙◌, subst, arith}
use Rattle.std.specs.List.{range_with_len}
use Rattle.std.proofs.lemmas.List.{map-append}
use Rattle.std.proofs.lemmas.Option.{none-some, same_Some}
use Rattle.ir_forest.specs.Closed.{HasEdges, blocks_of, all_blocks_of}
use Rattle.ir_print.specs.Pieces.{operation, a_region, block, Entity, entity, Entities, no_entity, an_entity}
use Rattle.ir_print.specs.Shown.{Pairs}
use Rattle.ir_program.specs.declared.handles.BasicBlock.{BasicBlock}
use Rattle.ir_program.specs.declared.handles.Operation.{Operation}
use Rattle.ir_program.specs.declared.handles.Ptr.{Ptr}
use Rattle.ir_program.specs.declared.handles.Region.{Region}
use Rattle.ir_program.specs.declared.handles.Value.{Value}
use Rattle.ir_trees.specs.Searched.{AreDistinct, labels_in, block_names}
use Rattle.ir_trees.specs.Stands.{AreTree, no_operations, no_blocks, no_regions, first_operation, first_block, first_region}
use Rattle.ir_trees.specs.Stands.{ProgramLabel, StandsFor}
use Rattle.ir_trees.specs.Trees.{Operations, Blocks, Regions, Sort, end}
use Rattle.ir_trees.specs.Trees as trees
use Rattle.kit.specs.Context.{KitContext, KitTree}
use Rattle.opt_trees.proofs.NoneDead.{has-left, has-right}
use Rattle.opt_trees.specs.Occurrences.{Has}
use Rattle.text_dialect.specs.Seen.{SeenOperation, SeenBlock, seen, seen_operation, seen_block}
use Rattle.text_dialect.specs.Standing.{HasTree, HasRegionTree, HasBlockTree, HaveRegionTrees, HaveBlockTrees, HaveTrees}
use Rattle.text_dialect.specs.Standing.{HasHead, HasOwnLabel, StandsForTexts}
use Rattle.text_rereading.specs.Rereading.{Numbering, Named}
use Rattle.kit.specs.Meaning.{KitOperation, KitBlock}
use Rattle.kit.specs.Says.{says}
use Rattle.kit_ops.specs.declared.attributes.KitAttr.{KitAttr}
use Rattle.kit_ops.specs.declared.kinds.KitOp.{KitOp}
use Rattle.kit_text_programs.proofs.AlikeLists.{before, pairs_joined}
use Rattle.kit_text_programs.proofs.SaidFunctions.{KitPart}
use Rattle.kit_text_programs.proofs.ToldTexts.ClosedNumbers.{blocks_defined}
use Rattle.kit_text_programs.proofs.ToldTexts.Near.{blocks_named, all_blocks_named}
use Rattle.kit_text_programs.proofs.ToldTexts.SideBySide.{place_of}
use Rattle.kit_text_programs.specs.Laws.{HaveOwnNumbers}

-- what counts up has at a place the number of the place
counted_at : (k m i n : ℕ) → slice_get (range_with_len k m) i ≡ Some n → n ≡ k + i
counted_at k zero i n e = absurd (none-some n e)
counted_at k (suc m) zero n e = let same : k ≡ n = same_Some k n e in omega arith
counted_at k (suc m) (suc i) n e = let rest = counted_at (k + 1) m i n e in omega arith

-- so each number of such a list stands at its own place
at_own_place : (ns : List ℕ) → ns ≡ range_with_len 0 (length ns) → (n : ℕ) → Has n ns → slice_get ns n ≡ Some n
at_own_place ns e n has =
    let at = place_of n ns has in
    let counted : n ≡ 0 + at.0 = counted_at 0 (length ns) at.0 n (subst (λ ms. slice_get ms at.0 ≡ Some n) e at.1) in
    let place : at.0 ≡ n = omega arith in
    subst (λ k. slice_get ns k ≡ Some n) place at.1

-- ---- the blocks of a tree

abbrev name_of : ProgramLabel KitOperation KitBlock → Ptr BasicBlock
name_of l = l.name

-- the blocks at every depth, each before what is in it
abbrev blocks_below : {k : Sort} → KitPart k → List (Ptr BasicBlock)
blocks_below end = []
blocks_below (trees.operation h rs rest) = blocks_below rs ++ blocks_below rest
blocks_below (trees.block l os rest) = l.name ∷ (blocks_below os ++ blocks_below rest)
blocks_below (trees.region bs rest) = blocks_below bs ++ blocks_below rest

-- they are the blocks that are found by search
blocks_found : {k : Sort} (x : KitPart k) → blocks_below x ≡ map name_of (labels_in x)
blocks_found end = refl
blocks_found (trees.operation h rs rest) =
    (λ i. blocks_found rs i ++ blocks_found rest i) ∙ sym (map-append name_of (labels_in rs) (labels_in rest))
blocks_found (trees.block l os rest) =
    ap (λ bs. l.name ∷ bs) ((λ i. blocks_found os i ++ blocks_found rest i)
    ∙ sym (map-append name_of (labels_in os) (labels_in rest)))
blocks_found (trees.region bs rest) =
    (λ i. blocks_found bs i ++ blocks_found rest i) ∙ sym (map-append name_of (labels_in bs) (labels_in rest))

module _ (s : KitContext) (numbering : Numbering) where
  abbrev Numbered : Ptr BasicBlock → ℕ → Type 0
  Numbered = (Named numbering).block

  -- ---- blocks have the numbers of the text

  mutual
    operations_numbered : (ps : List (Ptr Operation)) (x : KitPart Operations) (ts : Entities ℕ)
        → AreTree s.program Operations ps x → HaveTrees says (Named numbering) HasOwnLabel (seen s) ps ts
        → Pairs Numbered (blocks_below x) (all_blocks_of ts)
    operations_numbered [] x no_entity no_operations h = tt
    operations_numbered [] x (an_entity t ts) no_operations h = absurd h
    operations_numbered (p ∷ ps) x no_entity (first_operation _ _ v rs rest there inner after) h = absurd h
    operations_numbered (p ∷ ps) x (an_entity (entity (operation kind results used successors pieces) us) ts)
        (first_operation _ _ v rs rest there inner after) h =
        let here = h.0 in
        let is : seen_operation v ≡ here.0 =
        same_Some (seen_operation v) here.0 (sym (ap (option_map seen_operation) there) ∙ here.1) in
        pairs_joined Numbered (blocks_below rs) (blocks_below rest) (all_blocks_of us) (all_blocks_of ts)
        (regions_numbered v.regions rs us inner
        (subst (λ (o : SeenOperation KitOp KitAttr). HaveRegionTrees says (Named numbering) HasOwnLabel (seen s) o.regions us)
        (sym is) here.3)) (operations_numbered ps rest ts after h.1)
    operations_numbered (p ∷ ps) x (an_entity (entity a_region us) ts)
        (first_operation _ _ v rs rest there inner after) h = absurd h.0
    operations_numbered (p ∷ ps) x (an_entity (entity (block named label arguments) us) ts)
        (first_operation _ _ v rs rest there inner after) h = absurd h.0

    blocks_numbered : (bs : List (Ptr BasicBlock)) (x : KitPart Blocks) (ts : Entities ℕ)
        → AreTree s.program Blocks bs x → HaveBlockTrees says (Named numbering) HasOwnLabel (seen s) bs ts
        → Pairs Numbered (blocks_below x) (all_blocks_of ts)
    blocks_numbered [] x no_entity no_blocks h = tt
    blocks_numbered [] x (an_entity t ts) no_blocks h = absurd h
    blocks_numbered (b ∷ bs) x no_entity (first_block _ _ v os rest there inner after) h = absurd h
    blocks_numbered (b ∷ bs) x (an_entity (entity (block named label arguments) us) ts)
        (first_block _ _ v os rest there inner after) h =
        let here = h.0 in
        let is : seen_block v ≡ here.0 = same_Some (seen_block v) here.0 (sym (ap (option_map seen_block) there) ∙ here.1) in (
          here.3,
          pairs_joined Numbered (blocks_below os) (blocks_below rest) (all_blocks_of us) (all_blocks_of ts)
              (operations_numbered v.operations os us inner
              (subst (λ (o : SeenBlock). HaveTrees says (Named numbering) HasOwnLabel (seen s) o.operations us) (sym is) here.5))
              (blocks_numbered bs rest ts after h.1),
        )
    blocks_numbered (b ∷ bs) x (an_entity (entity a_region us) ts) (first_block _ _ v os rest there inner after) h =
        absurd h.0
    blocks_numbered (b ∷ bs) x (an_entity (entity (operation kind results used successors pieces) us) ts)
        (first_block _ _ v os rest there inner after) h = absurd h.0

    regions_numbered : (rs : List (Ptr Region)) (x : KitPart Regions) (ts : Entities ℕ)
        → AreTree s.program Regions rs x → HaveRegionTrees says (Named numbering) HasOwnLabel (seen s) rs ts
        → Pairs Numbered (blocks_below x) (all_blocks_of ts)
    regions_numbered [] x no_entity no_regions h = tt
    regions_numbered [] x (an_entity t ts) no_regions h = absurd h
    regions_numbered (r ∷ rs) x no_entity (first_region _ _ v bs rest there inner after) h = absurd h
    regions_numbered (r ∷ rs) x (an_entity (entity a_region us) ts) (first_region _ _ v bs rest there inner after) h =
        let here = h.0 in
        let is : v.blocks ≡ here.0 = same_Some v.blocks here.0 (sym (ap (option_map (λ z. z.blocks)) there) ∙ here.1) in
        pairs_joined Numbered (blocks_below bs) (blocks_below rest) (all_blocks_of us) (all_blocks_of ts)
        (blocks_numbered v.blocks bs us inner
        (subst (λ ms. HaveBlockTrees says (Named numbering) HasOwnLabel (seen s) ms us) (sym is) here.2))
        (regions_numbered rs rest ts after h.1)
    regions_numbered (r ∷ rs) x (an_entity (entity (operation kind results used successors pieces) us) ts)
        (first_region _ _ v bs rest there inner after) h = absurd h.0
    regions_numbered (r ∷ rs) x (an_entity (entity (block named label arguments) us) ts)
        (first_region _ _ v bs rest there inner after) h = absurd h.0

  -- ---- other blocks for the same numbers

  module _ (bs : List (Ptr BasicBlock)) (Known : ℕ → Type 0)
      (moved : (b : Ptr BasicBlock) (n : ℕ) → Known n → Numbered b n → slice_get bs n ≡ Some b) where
    abbrev renumbered : Numbering
    renumbered = record { values = numbering.values; blocks = bs }

    -- all of these numbers are known
    abbrev AllKnown : List ℕ → Type 0
    AllKnown ns = (n : ℕ) → Has n ns → Known n

    front : (xs ys : List ℕ) → AllKnown (xs ++ ys) → AllKnown xs
    front xs ys known n has = known n (has-left n xs ys has)

    back : (xs ys : List ℕ) → AllKnown (xs ++ ys) → AllKnown ys
    back xs ys known n has = known n (has-right n xs ys has)

    next_moved : (cs : List (Ptr BasicBlock)) (ns : List ℕ) → AllKnown ns → Pairs Numbered cs ns
        → Pairs (Named renumbered).block cs ns
    next_moved [] [] known h = tt
    next_moved [] (n ∷ ns) known h = absurd h
    next_moved (c ∷ cs) [] known h = absurd h
    next_moved (c ∷ cs) (n ∷ ns) known h =
        (moved c n (front (n ∷ []) ns known n (has_first n)) h.0, next_moved cs ns (back (n ∷ []) ns known) h.1)
      where
        has_first : (m : ℕ) → Has m (m ∷ [])
        has_first m = inl refl

    mutual
      operation_moved : (t : Entity ℕ) (p : Ptr Operation) → AllKnown (blocks_named t)
          → HasTree says (Named numbering) HasOwnLabel (seen s) p t
          → HasTree says (Named renumbered) HasOwnLabel (seen s) p t
      operation_moved (entity (operation kind results used successors pieces) us) p known h =
          let o = h.0 in
          let head = h.2 in
          let heads : HasHead says (Named renumbered) s.types.keys o kind results used successors pieces = record {
            said = head.said;
            says_it = head.says_it;
            shown = head.shown;
            defines = head.defines;
            mentions = head.mentions;
            goes_on = next_moved o.successors successors (front successors (all_blocks_named us) known) head.goes_on;
          } in
          (o, h.1, heads, regions_moved us o.regions (back successors (all_blocks_named us) known) h.3)
      operation_moved (entity a_region us) p known h = absurd h
      operation_moved (entity (block named label arguments) us) p known h = absurd h

      region_moved : (t : Entity ℕ) (r : Ptr Region) → AllKnown (blocks_named t)
          → HasRegionTree says (Named numbering) HasOwnLabel (seen s) r t
          → HasRegionTree says (Named renumbered) HasOwnLabel (seen s) r t
      region_moved (entity a_region us) r known h = (h.0, h.1, blocks_moved us h.0 known h.2)
      region_moved (entity (operation kind results used successors pieces) us) r known h = absurd h
      region_moved (entity (block named label arguments) us) r known h = absurd h

      block_moved : (t : Entity ℕ) (b : Ptr BasicBlock) → AllKnown (blocks_named t)
          → HasBlockTree says (Named numbering) HasOwnLabel (seen s) b t
          → HasBlockTree says (Named renumbered) HasOwnLabel (seen s) b t
      block_moved (entity (block named label arguments) us) b known h = (
        h.0,
        h.1,
        h.2,
        moved b named (known named (inl refl)) h.3,
        h.4,
        operations_moved us h.0.operations (back (named ∷ []) (all_blocks_named us) known) h.5,
      )
      block_moved (entity (operation kind results used successors pieces) us) b known h = absurd h
      block_moved (entity a_region us) b known h = absurd h

      operations_moved : (ts : Entities ℕ) (ps : List (Ptr Operation)) → AllKnown (all_blocks_named ts)
          → HaveTrees says (Named numbering) HasOwnLabel (seen s) ps ts
          → HaveTrees says (Named renumbered) HasOwnLabel (seen s) ps ts
      operations_moved no_entity [] known h = tt
      operations_moved no_entity (p ∷ ps) known h = absurd h
      operations_moved (an_entity t ts) [] known h = absurd h
      operations_moved (an_entity t ts) (p ∷ ps) known h = (
        operation_moved t p (front (blocks_named t) (all_blocks_named ts) known) h.0,
        operations_moved ts ps (back (blocks_named t) (all_blocks_named ts) known) h.1,
      )

      blocks_moved : (ts : Entities ℕ) (cs : List (Ptr BasicBlock)) → AllKnown (all_blocks_named ts)
          → HaveBlockTrees says (Named numbering) HasOwnLabel (seen s) cs ts
          → HaveBlockTrees says (Named renumbered) HasOwnLabel (seen s) cs ts
      blocks_moved no_entity [] known h = tt
      blocks_moved no_entity (c ∷ cs) known h = absurd h
      blocks_moved (an_entity t ts) [] known h = absurd h
      blocks_moved (an_entity t ts) (c ∷ cs) known h = (
        block_moved t c (front (blocks_named t) (all_blocks_named ts) known) h.0,
        blocks_moved ts cs (back (blocks_named t) (all_blocks_named ts) known) h.1,
      )

      regions_moved : (ts : Entities ℕ) (rs : List (Ptr Region)) → AllKnown (all_blocks_named ts)
          → HaveRegionTrees says (Named numbering) HasOwnLabel (seen s) rs ts
          → HaveRegionTrees says (Named renumbered) HasOwnLabel (seen s) rs ts
      regions_moved no_entity [] known h = tt
      regions_moved no_entity (r ∷ rs) known h = absurd h
      regions_moved (an_entity t ts) [] known h = absurd h
      regions_moved (an_entity t ts) (r ∷ rs) known h = (
        region_moved t r (front (blocks_named t) (all_blocks_named ts) known) h.0,
        regions_moved ts rs (back (blocks_named t) (all_blocks_named ts) known) h.1,
      )

-- ---- roots

-- the blocks of a tree in their order, beside the values of a numbering
abbrev pub with_own_blocks : Numbering → KitTree → Numbering
with_own_blocks numbering t = record { values = numbering.values; blocks = block_names t }

root_numbered : (s : KitContext) (numbering : Numbering) (text : Entity ℕ) (root : Ptr Operation) (t : KitTree)
    → StandsForTexts says (Named numbering) (seen s) root text → StandsFor s.program root t
    → Pairs (Named numbering).block (block_names t) (blocks_of text)
root_numbered s numbering (entity (operation kind results used successors pieces) us) root t h stands =
    let v = stands.view in
    let is : seen_operation v ≡ h.0 =
    same_Some (seen_operation v) h.0 (sym (ap (option_map seen_operation) stands.there) ∙ h.1) in
    subst (λ bs. Pairs (Named numbering).block bs (all_blocks_of us)) (blocks_found t.regions)
    (regions_numbered s numbering v.regions t.regions us stands.regions
    (subst (λ (o : SeenOperation KitOp KitAttr). HaveRegionTrees says (Named numbering) HasOwnLabel (seen s) o.regions us)
    (sym is) h.3))
root_numbered s numbering (entity a_region us) root t h stands = absurd h
root_numbered s numbering (entity (block named label arguments) us) root t h stands = absurd h

-- an operation stands for a text with the blocks of its own tree, where the text numbers its blocks in their order, and edges in it
-- lead to blocks in it
pub stands_with_own_blocks : (s : KitContext) (numbering : Numbering) (text : Entity ℕ) (root : Ptr Operation)
    (t : KitTree) → StandsForTexts says (Named numbering) (seen s) root text → StandsFor s.program root t
    → HasEdges [] text → blocks_of text ≡ range_with_len 0 (length (blocks_of text))
    → StandsForTexts says (Named (with_own_blocks numbering t)) (seen s) root text
stands_with_own_blocks s numbering text root t h stands edges ordered =
    operation_moved s numbering (block_names t) (λ n. Has n (blocks_of text)) moved text root (blocks_defined text edges) h
  where
    moved : (b : Ptr BasicBlock) (n : ℕ) → Has n (blocks_of text) → (Named numbering).block b n
        → slice_get (block_names t) n ≡ Some b
    moved b n has named =
        let own = before (Named numbering).block (block_names t) (blocks_of text)
        (root_numbered s numbering text root t h stands) n n (at_own_place (blocks_of text) ordered n has) in
        own.1 ∙ ap Some (same_Some own.0 b (sym own.2 ∙ named))

-- so its numbers are its own
pub own_numbers : (numbering : Numbering) (t : KitTree)
    → ((i j : ℕ) (v w : Value) → slice_get numbering.values i ≡ Some v → slice_get numbering.values j ≡ Some w
    → v.number ≡ w.number → i ≡ j) → AreDistinct (block_names t) → HaveOwnNumbers (with_own_blocks numbering t)
own_numbers numbering t values blocks = record { values = values; blocks = blocks }
