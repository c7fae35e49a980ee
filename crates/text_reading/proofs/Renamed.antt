-- A tree whose names are others that name the same values and blocks.
use Rattle.std.proofs.Common.{ℕ, List, [], ◌∷◌, map}
use Rattle.ir_program.specs.Program.{TypedValue}
use Rattle.ir_program.specs.declared.handles.Ptr.{Ptr}
use Rattle.ir_program.specs.declared.handles.Operation.{Operation}
use Rattle.ir_program.specs.declared.handles.Region.{Region}
use Rattle.ir_program.specs.declared.handles.BasicBlock.{BasicBlock}
use Rattle.ir_print.specs.Pieces.{ValueTree, operation, a_region, block, Entity, entity, Entities, no_entity, an_entity}
use Rattle.ir_print.specs.Shown.{Saying, Pairs}
use Rattle.ir_forest.specs.Meaning.{renamed, all_renamed}
use Rattle.text_dialect.specs.Seen.{SeenBlock, Seen}
use Rattle.text_dialect.specs.Standing.{Naming, HasDefinition, HasTree, HasRegionTree, HasBlockTree, HaveRegionTrees, HaveBlockTrees, HaveTrees}

pairs_map : {X Y Z : Type 0} (R : X → Y → Type 0) (Q : X → Z → Type 0) (g : Y → Z) → ((x : X) (y : Y) → R x y → Q x (g y))
    → (xs : List X) (ys : List Y) → Pairs R xs ys → Pairs Q xs (map g ys)
pairs_map R Q g go [] [] h = tt
pairs_map R Q g go (x ∷ xs) (y ∷ ys) h = (go x y h.0, pairs_map R Q g go xs ys h.1)
pairs_map R Q g go [] (y ∷ ys) h = absurd h
pairs_map R Q g go (x ∷ xs) [] h = absurd h

module _ {K A T M N : Type 0} (says : Saying K A T) (Named : Naming N)
    (Labels : Ptr BasicBlock → SeenBlock → List ℕ → Type 0) (f g : M → N) (s : Seen K A T) where
  -- a name is the other one
  abbrev Through : Naming M
  Through = record { value = λ v k. Named.value v (f k); block = λ b k. Named.block b (g k) }

  definitions : (vs : List TypedValue) (rs : List (M × ValueTree)) → Pairs (HasDefinition says Through s.types) vs rs
      → Pairs (HasDefinition says Named s.types) vs (map (λ r. (f r.0, r.1)) rs)
  definitions vs rs h = pairs_map (HasDefinition says Through s.types) (HasDefinition says Named s.types)
      (λ r. (f r.0, r.1)) (λ v r x. (x.0, x.1)) vs rs h

  mutual
    -- An operation has a tree where names mean what the others mean, so it has the renamed one.
    pub renamed_tree : (p : Ptr Operation) (t : Entity M) → HasTree says Through Labels s p t → HasTree says Named Labels s p (renamed f g t)
    renamed_tree p (entity (operation kind results operands successors pieces) ts) h =
        let head = h.2 in (
          h.0,
          h.1,
          record {
            said = head.said;
            says_it = head.says_it;
            shown = head.shown;
            defines = definitions h.0.results results head.defines;
            mentions = pairs_map Through.value Named.value f (λ v k x. x) h.0.operands operands head.mentions;
            goes_on = pairs_map Through.block Named.block g (λ b k x. x) h.0.successors successors head.goes_on;
          },
          renamed_regions h.0.regions ts h.3,
        )
    renamed_tree p (entity a_region ts) h = absurd h
    renamed_tree p (entity (block named label arguments) ts) h = absurd h

    renamed_region : (r : Ptr Region) (t : Entity M) → HasRegionTree says Through Labels s r t → HasRegionTree says Named Labels s r (renamed f g t)
    renamed_region r (entity a_region ts) h = (h.0, h.1, renamed_blocks h.0 ts h.2)
    renamed_region r (entity (operation kind results operands successors pieces) ts) h = absurd h
    renamed_region r (entity (block named label arguments) ts) h = absurd h

    renamed_block : (b : Ptr BasicBlock) (t : Entity M) → HasBlockTree says Through Labels s b t → HasBlockTree says Named Labels s b (renamed f g t)
    renamed_block b (entity (block named label arguments) ts) h =
        (h.0, h.1, h.2, h.3, definitions h.0.arguments arguments h.4, renamed_trees h.0.operations ts h.5)
    renamed_block b (entity a_region ts) h = absurd h
    renamed_block b (entity (operation kind results operands successors pieces) ts) h = absurd h

    renamed_regions : (rs : List (Ptr Region)) (ts : Entities M) → HaveRegionTrees says Through Labels s rs ts → HaveRegionTrees says Named Labels s rs (all_renamed f g ts)
    renamed_regions [] no_entity h = tt
    renamed_regions (r ∷ rs) (an_entity t ts) h = (renamed_region r t h.0, renamed_regions rs ts h.1)
    renamed_regions [] (an_entity t ts) h = absurd h
    renamed_regions (r ∷ rs) no_entity h = absurd h

    renamed_blocks : (bs : List (Ptr BasicBlock)) (ts : Entities M) → HaveBlockTrees says Through Labels s bs ts → HaveBlockTrees says Named Labels s bs (all_renamed f g ts)
    renamed_blocks [] no_entity h = tt
    renamed_blocks (b ∷ bs) (an_entity t ts) h = (renamed_block b t h.0, renamed_blocks bs ts h.1)
    renamed_blocks [] (an_entity t ts) h = absurd h
    renamed_blocks (b ∷ bs) no_entity h = absurd h

    renamed_trees : (ps : List (Ptr Operation)) (ts : Entities M) → HaveTrees says Through Labels s ps ts → HaveTrees says Named Labels s ps (all_renamed f g ts)
    renamed_trees [] no_entity h = tt
    renamed_trees (p ∷ ps) (an_entity t ts) h = (renamed_tree p t h.0, renamed_trees ps ts h.1)
    renamed_trees [] (an_entity t ts) h = absurd h
    renamed_trees (p ∷ ps) no_entity h = absurd h
