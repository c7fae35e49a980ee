-- Trees that operations have are of the shape of their formats.
use Rattle.std.proofs.Common.{ℕ, List, [], ◌∷◌, length, refl, ◌∙◌}
use Rattle.ir_forest.specs.Closed.{FitsTree, FitTrees}
use Rattle.ir_print.specs.Formats as step
use Rattle.ir_print.specs.Formats.{Formats}
use Rattle.ir_print.specs.Pieces.{ValueTree, Values, operation, a_region, block, Entity, entity, Entities, no_entity, an_entity}
use Rattle.ir_print.specs.Shapes.{parts_in, FitArguments, SaysTypes, SaysAttributes, SaysOperations}
use Rattle.ir_print.specs.Shown.{said_type, alone, Saying, Pairs}
use Rattle.ir_program.specs.Program.{TypedValue}
use Rattle.ir_program.specs.declared.handles.Ptr.{Ptr}
use Rattle.ir_program.specs.declared.handles.Operation.{Operation}
use Rattle.ir_program.specs.declared.handles.Region.{Region}
use Rattle.ir_program.specs.declared.handles.BasicBlock.{BasicBlock}
use Rattle.ir_rereading.proofs.SaidFits.{shown_fits, all_fit}
use Rattle.ir_rereading.proofs.trees.TreeAlike.{pairs_length}
use Rattle.text_dialect.specs.Seen.{SeenBlock, Seen, types_of}
use Rattle.ir_print.specs.declared.format.ValueSort.TheVariants as sorts
use Rattle.text_dialect.specs.Standing.{Naming, HasDefinition, HasTree, HasRegionTree, HasBlockTree, HaveRegionTrees, HaveBlockTrees, HaveTrees}

module _ {K A T N : Type 0} (says : Saying K A T) (f : Formats) (v : Values) (say_types : SaysTypes says f v)
    (say_attributes : SaysAttributes says f v) (say_operations : SaysOperations says f v)
    (Named : Naming N) (Labels : Ptr BasicBlock → SeenBlock → List ℕ → Type 0) (s : Seen K A T) where
  arguments_fit : (ds : List TypedValue) (xs : List (N × ValueTree)) → Pairs (HasDefinition says Named s.types) ds xs
      → FitArguments f v xs
  arguments_fit [] [] h = tt
  arguments_fit [] (x ∷ xs) h = absurd h
  arguments_fit (d ∷ ds) [] h = absurd h
  arguments_fit (d ∷ ds) (x ∷ xs) h = (
    shown_fits says f v s.types say_types say_attributes x.1 (step.a_value sorts.«Type»)
        (alone (said_type d.ty)) refl h.0.1,
    arguments_fit ds xs h.1,
  )

  mutual
    -- the tree of an operation fits
    pub tree_fits : (t : Entity N) (p : Ptr Operation) → HasTree says Named Labels s p t → FitsTree f v t
    tree_fits (entity (operation kind results used successors pieces) ts) p h =
        let o = h.0 in
        let head = h.2 in
        let said =
        say_operations s.types o.kind o.attributes (length o.operands)
        (types_of o.results) kind head.said pieces head.says_it head.shown in (
          (
            said.kind,
            said.at,
            all_fit says f v s.types say_types say_attributes pieces
                (parts_in said.kind.format) head.said said.shaped head.shown,
            said.read,
            said.operands ∙ pairs_length Named.value o.operands used head.mentions,
          ),
          regions_fit ts o.regions h.3,
        )
    tree_fits (entity a_region ts) p h = absurd h
    tree_fits (entity (block named label arguments) ts) p h = absurd h

    regions_fit : (ts : Entities N) (rs : List (Ptr Region)) → HaveRegionTrees says Named Labels s rs ts
        → FitTrees f v ts
    regions_fit no_entity rs h = tt
    regions_fit (an_entity t ts) [] h = absurd h
    regions_fit (an_entity t ts) (r ∷ rs) h = (region_fits t r h.0, regions_fit ts rs h.1)

    region_fits : (t : Entity N) (r : Ptr Region) → HasRegionTree says Named Labels s r t → FitsTree f v t
    region_fits (entity a_region ts) r h = (tt, blocks_fit ts h.0 h.2)
    region_fits (entity (operation kind results used successors pieces) ts) r h = absurd h
    region_fits (entity (block named label arguments) ts) r h = absurd h

    blocks_fit : (ts : Entities N) (bs : List (Ptr BasicBlock)) → HaveBlockTrees says Named Labels s bs ts
        → FitTrees f v ts
    blocks_fit no_entity bs h = tt
    blocks_fit (an_entity t ts) [] h = absurd h
    blocks_fit (an_entity t ts) (b ∷ bs) h = (block_fits t b h.0, blocks_fit ts bs h.1)

    block_fits : (t : Entity N) (b : Ptr BasicBlock) → HasBlockTree says Named Labels s b t → FitsTree f v t
    block_fits (entity (block named label arguments) ts) b h =
        (arguments_fit h.0.arguments arguments h.4, operations_fit ts h.0.operations h.5)
    block_fits (entity (operation kind results used successors pieces) ts) b h = absurd h
    block_fits (entity a_region ts) b h = absurd h

    operations_fit : (ts : Entities N) (ps : List (Ptr Operation)) → HaveTrees says Named Labels s ps ts
        → FitTrees f v ts
    operations_fit no_entity ps h = tt
    operations_fit (an_entity t ts) [] h = absurd h
    operations_fit (an_entity t ts) (p ∷ ps) h = (tree_fits t p h.0, operations_fit ts ps h.1)
