-- What stands for a text stands for the text without its labels, where blocks may have any label.
use Rattle.std.proofs.Common.{ℕ, List, [], ◌∷◌}
use Rattle.ir_forest.specs.Closed.{unlabelled, all_unlabelled}
use Rattle.ir_print.specs.Pieces.{operation, a_region, block, Entity, entity, Entities, no_entity, an_entity}
use Rattle.ir_print.specs.Shown.{Saying}
use Rattle.ir_program.specs.declared.handles.Ptr.{Ptr}
use Rattle.ir_program.specs.declared.handles.Operation.{Operation}
use Rattle.ir_program.specs.declared.handles.Region.{Region}
use Rattle.ir_program.specs.declared.handles.BasicBlock.{BasicBlock}
use Rattle.text_dialect.specs.Seen.{SeenBlock, Seen}
use Rattle.text_dialect.specs.Standing.{HasOwnLabel, HasTree, HasRegionTree, HasBlockTree, HaveRegionTrees}
use Rattle.text_dialect.specs.Standing.{HaveBlockTrees, HaveTrees, Naming}

-- a block is what a text of some label shows, whatever label is written here
abbrev pub HasSomeLabel : Ptr BasicBlock → SeenBlock → List ℕ → Type 0
HasSomeLabel b v written = (label : List ℕ) × HasOwnLabel b v label

module _ {K A T N : Type 0} (says : Saying K A T) (Named : Naming N) (s : Seen K A T) where
  mutual
    pub unlabelled_tree : (t : Entity N) (p : Ptr Operation) → HasTree says Named HasOwnLabel s p t
        → HasTree says Named HasSomeLabel s p (unlabelled t)
    unlabelled_tree (entity (operation kind results used successors pieces) us) p h =
        (h.0, h.1, h.2, unlabelled_regions us h.0.regions h.3)
    unlabelled_tree (entity a_region us) p h = absurd h
    unlabelled_tree (entity (block named label arguments) us) p h = absurd h

    unlabelled_region : (t : Entity N) (r : Ptr Region) → HasRegionTree says Named HasOwnLabel s r t
        → HasRegionTree says Named HasSomeLabel s r (unlabelled t)
    unlabelled_region (entity a_region us) r h = (h.0, h.1, unlabelled_blocks us h.0 h.2)
    unlabelled_region (entity (operation kind results used successors pieces) us) r h = absurd h
    unlabelled_region (entity (block named label arguments) us) r h = absurd h

    unlabelled_block : (t : Entity N) (b : Ptr BasicBlock) → HasBlockTree says Named HasOwnLabel s b t
        → HasBlockTree says Named HasSomeLabel s b (unlabelled t)
    unlabelled_block (entity (block named label arguments) us) b h =
        (h.0, h.1, (label, h.2), h.3, h.4, unlabelled_trees us h.0.operations h.5)
    unlabelled_block (entity (operation kind results used successors pieces) us) b h = absurd h
    unlabelled_block (entity a_region us) b h = absurd h

    unlabelled_regions : (ts : Entities N) (rs : List (Ptr Region)) → HaveRegionTrees says Named HasOwnLabel s rs ts
        → HaveRegionTrees says Named HasSomeLabel s rs (all_unlabelled ts)
    unlabelled_regions no_entity [] h = tt
    unlabelled_regions no_entity (r ∷ rs) h = absurd h
    unlabelled_regions (an_entity t ts) [] h = absurd h
    unlabelled_regions (an_entity t ts) (r ∷ rs) h = (unlabelled_region t r h.0, unlabelled_regions ts rs h.1)

    unlabelled_blocks : (ts : Entities N) (bs : List (Ptr BasicBlock)) → HaveBlockTrees says Named HasOwnLabel s bs ts
        → HaveBlockTrees says Named HasSomeLabel s bs (all_unlabelled ts)
    unlabelled_blocks no_entity [] h = tt
    unlabelled_blocks no_entity (b ∷ bs) h = absurd h
    unlabelled_blocks (an_entity t ts) [] h = absurd h
    unlabelled_blocks (an_entity t ts) (b ∷ bs) h = (unlabelled_block t b h.0, unlabelled_blocks ts bs h.1)

    unlabelled_trees : (ts : Entities N) (ps : List (Ptr Operation)) → HaveTrees says Named HasOwnLabel s ps ts
        → HaveTrees says Named HasSomeLabel s ps (all_unlabelled ts)
    unlabelled_trees no_entity [] h = tt
    unlabelled_trees no_entity (p ∷ ps) h = absurd h
    unlabelled_trees (an_entity t ts) [] h = absurd h
    unlabelled_trees (an_entity t ts) (p ∷ ps) h = (unlabelled_tree t p h.0, unlabelled_trees ts ps h.1)
