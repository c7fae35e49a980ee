-- Trees of what is made.
use Rattle.std.proofs.Common.{◌≡◌, ℕ, List, [], ◌∷◌, ◌++◌, Option, Some, None, sym, ap, ◌∙◌, subst}
use Rattle.ir_base.specs.declared.types.TypeHandle.{TypeHandle}
use Rattle.ir_program.specs.Program.{TypedValue}
use Rattle.ir_program.specs.declared.handles.Ptr.{Ptr}
use Rattle.ir_program.specs.declared.handles.Operation.{Operation}
use Rattle.ir_program.specs.declared.handles.Region.{Region}
use Rattle.ir_program.specs.declared.handles.BasicBlock.{BasicBlock}
use Rattle.ir_print.specs.Pieces.{ValueTree, Pieces, operation, a_region, block, Entity, entity, Entities, no_entity, an_entity}
use Rattle.ir_print.specs.Shown.{Saying, Pairs}
use Rattle.text_dialect.specs.Seen.{SeenOperation, SeenBlock, Seen}
use Rattle.text_dialect.specs.Standing.{Naming, HasDefinition, HasHead, HasTree, HasRegionTree, HasBlockTree, HaveRegionTrees, HaveBlockTrees, HaveTrees}
use Rattle.text_frames.specs.building.Kept.{KeepsAllSeen, KeepsKeys}
use Rattle.text_frames.specs.building.Later.{IsLater}
use Rattle.text_frames.specs.building.Made.{MakesDetachedOperation}
use Rattle.text_frames.specs.building.Trees.{with_last, HaveListTrees}
use Rattle.text_frames.proofs.BuildingLemmas.Members.{pairs_map}
use Rattle.text_frames.proofs.BuildingLemmas.ShownLater.{shows_later, all_later}

module _ {K A T N : Type 0} (says : Saying K A T) (Named : Naming N) (old new : List T) (keeps : KeepsKeys old new) where
  pub definitions_kept : (vs : List TypedValue) (rs : List (N × ValueTree)) → Pairs (HasDefinition says Named old) vs rs → Pairs (HasDefinition says Named new) vs rs
  definitions_kept vs rs h = pairs_map (HasDefinition says Named old) (HasDefinition says Named new) vs rs (λ k v r here beside d. (d.0, shows_later says old new keeps _ r.1 d.1)) h

  pub head_kept : (o : SeenOperation K A) (kind : ℕ) (results : List (N × ValueTree)) (operands successors : List N) (pieces : Pieces) → HasHead says Named old o kind results operands successors pieces → HasHead says Named new o kind results operands successors pieces
  head_kept o kind results operands successors pieces h = record {
    said = h.said;
    says_it = h.says_it;
    shown = all_later says old new keeps h.said pieces h.shown;
    defines = definitions_kept o.results results h.defines;
    mentions = h.mentions;
    goes_on = h.goes_on;
  }

module _ {K A T N : Type 0} (says : Saying K A T) (Named : Naming N) (Labels : Ptr BasicBlock → SeenBlock → List ℕ → Type 0) (s t : Seen K A T) (keeps : KeepsAllSeen s t) where
  mutual
    -- a tree stays where all is kept
    pub tree_kept : (p : Ptr Operation) (x : Entity N) → HasTree says Named Labels s p x → HasTree says Named Labels t p x
    tree_kept p (entity (operation kind results operands successors pieces) ts) h =
        (h.0, keeps.operations p h.0 h.1, head_kept says Named s.types t.types keeps.types h.0 kind results operands successors pieces h.2, region_trees_kept h.0.regions ts h.3)
    tree_kept p (entity a_region ts) h = absurd h
    tree_kept p (entity (block named label arguments) ts) h = absurd h

    pub region_tree_kept : (r : Ptr Region) (x : Entity N) → HasRegionTree says Named Labels s r x → HasRegionTree says Named Labels t r x
    region_tree_kept r (entity a_region ts) h = (h.0, keeps.regions r h.0 h.1, block_trees_kept h.0 ts h.2)
    region_tree_kept r (entity (operation kind results operands successors pieces) ts) h = absurd h
    region_tree_kept r (entity (block named label arguments) ts) h = absurd h

    pub block_tree_kept : (b : Ptr BasicBlock) (x : Entity N) → HasBlockTree says Named Labels s b x → HasBlockTree says Named Labels t b x
    block_tree_kept b (entity (block named label arguments) ts) h =
        (h.0, keeps.blocks b h.0 h.1, h.2, h.3, definitions_kept says Named s.types t.types keeps.types h.0.arguments arguments h.4, trees_kept h.0.operations ts h.5)
    block_tree_kept b (entity (operation kind results operands successors pieces) ts) h = absurd h
    block_tree_kept b (entity a_region ts) h = absurd h

    pub region_trees_kept : (rs : List (Ptr Region)) (xs : Entities N) → HaveRegionTrees says Named Labels s rs xs → HaveRegionTrees says Named Labels t rs xs
    region_trees_kept [] no_entity h = h
    region_trees_kept [] (an_entity x xs) h = absurd h
    region_trees_kept (r ∷ rs) no_entity h = absurd h
    region_trees_kept (r ∷ rs) (an_entity x xs) h = (region_tree_kept r x h.0, region_trees_kept rs xs h.1)

    pub block_trees_kept : (bs : List (Ptr BasicBlock)) (xs : Entities N) → HaveBlockTrees says Named Labels s bs xs → HaveBlockTrees says Named Labels t bs xs
    block_trees_kept [] no_entity h = h
    block_trees_kept [] (an_entity x xs) h = absurd h
    block_trees_kept (b ∷ bs) no_entity h = absurd h
    block_trees_kept (b ∷ bs) (an_entity x xs) h = (block_tree_kept b x h.0, block_trees_kept bs xs h.1)

    pub trees_kept : (ps : List (Ptr Operation)) (xs : Entities N) → HaveTrees says Named Labels s ps xs → HaveTrees says Named Labels t ps xs
    trees_kept [] no_entity h = h
    trees_kept [] (an_entity x xs) h = absurd h
    trees_kept (p ∷ ps) no_entity h = absurd h
    trees_kept (p ∷ ps) (an_entity x xs) h = (tree_kept p x h.0, trees_kept ps xs h.1)

module _ {K A T N : Type 0} (says : Saying K A T) (Named : Naming N) (Labels : Ptr BasicBlock → SeenBlock → List ℕ → Type 0) (s : Seen K A T) where
  -- one tree more
  pub one_tree_more : (ps : List (Ptr Operation)) (xs : Entities N) (p : Ptr Operation) (x : Entity N) → HaveTrees says Named Labels s ps xs → HasTree says Named Labels s p x → HaveTrees says Named Labels s (ps ++ p ∷ []) (with_last xs x)
  one_tree_more [] no_entity p x h g = (g, tt)
  one_tree_more [] (an_entity y ys) p x h g = absurd h
  one_tree_more (q ∷ qs) no_entity p x h g = absurd h
  one_tree_more (q ∷ qs) (an_entity y ys) p x h g = (h.0, one_tree_more qs ys p x h.1 g)

  pub one_block_tree_more : (bs : List (Ptr BasicBlock)) (xs : Entities N) (b : Ptr BasicBlock) (x : Entity N) → HaveBlockTrees says Named Labels s bs xs → HasBlockTree says Named Labels s b x → HaveBlockTrees says Named Labels s (bs ++ b ∷ []) (with_last xs x)
  one_block_tree_more [] no_entity b x h g = (g, tt)
  one_block_tree_more [] (an_entity y ys) b x h g = absurd h
  one_block_tree_more (q ∷ qs) no_entity b x h g = absurd h
  one_block_tree_more (q ∷ qs) (an_entity y ys) b x h g = (h.0, one_block_tree_more qs ys b x h.1 g)

  -- regions with the blocks of the lists have their trees
  pub list_trees : (rs : List (Ptr Region)) (bss : List (List (Ptr BasicBlock))) (xs : Entities N) → Pairs (λ r bs. s.region r ≡ Some bs) rs bss → HaveListTrees says Named Labels s bss xs → HaveRegionTrees says Named Labels s rs xs
  list_trees [] [] no_entity e h = tt
  list_trees [] [] (an_entity x xs) e h = absurd h
  list_trees [] (bs ∷ bss) xs e h = absurd e
  list_trees (r ∷ rs) [] xs e h = absurd e
  list_trees (r ∷ rs) (bs ∷ bss) no_entity e h = absurd h
  list_trees (r ∷ rs) (bs ∷ bss) (an_entity (entity a_region ts) xs) e h = ((bs, e.0, h.0), list_trees rs bss xs e.1 h.1)
  list_trees (r ∷ rs) (bs ∷ bss) (an_entity (entity (operation kind results operands successors pieces) ts) xs) e h = absurd h
  list_trees (r ∷ rs) (bs ∷ bss) (an_entity (entity (block named label arguments) ts) xs) e h = absurd h

module _ {K A T N : Type 0} (says : Saying K A T) (Named : Naming N) (Labels : Ptr BasicBlock → SeenBlock → List ℕ → Type 0) (s t end : Seen K A T)
    (p : Ptr Operation) (kind : K) (attributes : List (List ℕ × A)) (tys : List TypeHandle) (n : ℕ) (bss : List (List (Ptr BasicBlock))) (made : MakesDetachedOperation s t p kind attributes tys n bss) (later : IsLater t end) where
  -- an operation that was made has the tree of its head and of the lists, however making ends
  pub made_tree : (u : SeenOperation K A) (number : ℕ) (results : List (N × ValueTree)) (operands successors : List N) (pieces : Pieces) (xs : Entities N)
      → end.operation p ≡ Some u → HasHead says Named end.types u number results operands successors pieces → HaveListTrees says Named Labels end bss xs
      → HasTree says Named Labels end p (entity (operation number results operands successors pieces) xs)
  made_tree u number results operands successors pieces xs e head lists =
      let f = later.operations p _ made.made in
      let same : made.handles ≡ u.regions = ap regions_or (sym f.2 ∙ e) in
      let filled : Pairs (λ r bs. end.region r ≡ Some bs) made.handles bss = pairs_map (λ r bs. t.region r ≡ Some bs) (λ r bs. end.region r ≡ Some bs) made.handles bss (λ k r bs here beside h. later.regions r bs h) made.filled in
      (u, e, head, subst (λ rs. HaveRegionTrees says Named Labels end rs xs) same (list_trees says Named Labels end made.handles bss xs filled lists))
    where
      regions_or : Option (SeenOperation K A) → List (Ptr Region)
      regions_or None = []
      regions_or (Some o) = o.regions
