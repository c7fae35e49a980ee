-- What stands for a closed tree of texts can be written.
use Rattle.std.proofs.Common.{◌≡◌, ◌∙◌, ℕ, zero, suc, List, [], ◌∷◌, map, length, Some, refl, ap, sym, subst, slice_get, option_map}
use Rattle.std.proofs.lemmas.Option.{none-some}
use Rattle.ir_forest.specs.Bare.{AreBare, AreBareTrees, IsBare, AreBareArguments}
use Rattle.ir_forest.specs.Closed.{IsClosedTree, number_in, regions_said, AreOperations, AreBlocks, AreRegions}
use Rattle.ir_print.specs.Layout.{Deeper, IsFlat, AreFlat, AreShallow, AreFlatArguments}
use Rattle.ir_print.specs.Pieces.{ValueTree, Pieces, operation, a_region, block, Entity, entity, Entities, no_entity, an_entity}
use Rattle.ir_print.specs.Shown.{Pairs, ShowsType, successors_said}
use Rattle.ir_program.specs.Program.{OperationView, BlockView, RegionView, TypedValue, operation_at, block_at, region_at}
use Rattle.ir_program.specs.declared.handles.Ptr.{Ptr}
use Rattle.ir_program.specs.declared.handles.Operation.{Operation}
use Rattle.ir_program.specs.declared.handles.Region.{Region}
use Rattle.ir_program.specs.declared.handles.BasicBlock.{BasicBlock}
use Rattle.ir_trees.specs.Stands.{by_handle, in_program, head_of, defined_by, AreTree, no_operations, no_blocks, no_regions, first_operation, first_block, first_region, StandsFor}
use Rattle.ir_trees.specs.Trees.{Sort, Operations, Blocks, Regions, Tree}
use Rattle.kit.specs.Context.{KitContext, KitTree}
use Rattle.text_dialect.specs.Seen.{SeenOperation, SeenBlock, seen, seen_operation, seen_block, types_of}
use Rattle.text_dialect.specs.Standing.{Naming, HasDefinition, HasHead, HasOwnLabel, HaveRegionTrees, HaveBlockTrees, HaveTrees, StandsForTexts}
use Rattle.kit.specs.Meaning.{KitOperation, KitBlock}
use Rattle.kit_language.specs.Language.{kit_language}
use Rattle.kit_ops.specs.declared.attributes.KitAttr.{KitAttr}
use Rattle.kit_ops.specs.declared.kinds.KitOp.{KitOp}
use Rattle.kit.specs.Says.{says, values}
use Rattle.kit_writable_trees.specs.Writable.{types_in, count_of, IsWritableHead, IsWritable, IsWritableRoot}

some_parts : {X : Type 0} (x y : X) → Some x ≡ Some y → x ≡ y
some_parts x y e = cc

-- a list of no members
is_none : {X : Type 0} (xs : List X) → length xs ≡ 0 → xs ≡ []
is_none [] e = refl
is_none (x ∷ xs) e = cc

-- lists are as long of which each is beside one
as_long : {X Y : Type 0} (R : X → Y → Type 0) (xs : List X) (ys : List Y) → Pairs R xs ys → length xs ≡ length ys
as_long R [] [] h = refl
as_long R [] (y ∷ ys) h = absurd h
as_long R (x ∷ xs) [] h = absurd h
as_long R (x ∷ xs) (y ∷ ys) h = ap suc (as_long R xs ys h.1)

-- one deeper, of what holds there
deeper : (d : ℕ) (P Q : ℕ → Type 0) → ((e : ℕ) → P e → Q e) → Deeper d P → Deeper d Q
deeper zero P Q f h = absurd h
deeper (suc d) P Q f h = f d h

-- the types of definitions are those of the values
types_same : (vs : List TypedValue) → types_in (map defined_by vs) ≡ types_of vs
types_same [] = refl
types_same (v ∷ vs) = ap (λ tys. v.ty ∷ tys) (types_same vs)

-- parts of trees of operations of `kit`
abbrev KitPart : Sort → Type 0
KitPart k = Tree by_handle (in_program KitOperation KitBlock) k

module _ {N : Type 0} (s : KitContext) (Named : Naming N) where
  -- definitions have the types that are written beside them
  typed_so : (vs : List TypedValue) (xs : List (N × ValueTree)) → Pairs (HasDefinition says Named s.types.keys) vs xs
      → Pairs (ShowsType says s.types.keys) (types_of vs) (map (λ x. x.1) xs)
  typed_so [] [] h = tt
  typed_so [] (x ∷ xs) h = absurd h
  typed_so (v ∷ vs) [] h = absurd h
  typed_so (v ∷ vs) (x ∷ xs) h = (h.0.1, typed_so vs xs h.1)

  flat_so : (d : ℕ) (xs : List (N × ValueTree)) → AreFlatArguments d xs → (i : ℕ) (shape : ValueTree)
      → slice_get (map (λ x. x.1) xs) i ≡ Some shape → IsFlat d shape
  flat_so d [] h i shape e = absurd (none-some shape e)
  flat_so d (x ∷ xs) h zero shape e = let same : x.1 ≡ shape = cc in subst (IsFlat d) same h.0
  flat_so d (x ∷ xs) h (suc i) shape e = flat_so d xs h.1 i shape e

  bare_so : (xs : List (N × ValueTree)) → AreBareArguments xs → (i : ℕ) (shape : ValueTree)
      → slice_get (map (λ x. x.1) xs) i ≡ Some shape → IsBare shape
  bare_so [] h i shape e = absurd (none-some shape e)
  bare_so (x ∷ xs) h zero shape e = let same : x.1 ≡ shape = cc in subst IsBare same h.0
  bare_so (x ∷ xs) h (suc i) shape e = bare_so xs h.1 i shape e

  -- there are as many regions
  as_many : (rs : List (Ptr Region)) (x : KitPart Regions) (ts : Entities N)
      → AreTree s.program Regions rs x → HaveRegionTrees says Named HasOwnLabel (seen s) rs ts → number_in ts ≡ count_of x
  as_many [] x no_entity no_regions h = refl
  as_many [] x (an_entity t ts) no_regions h = absurd h
  as_many (r ∷ rs) x no_entity (first_region _ _ v bs rest there inner after) h = absurd h
  as_many (r ∷ rs) x (an_entity t ts) (first_region _ _ v bs rest there inner after) h = ap suc (as_many rs rest ts after h.1)

  -- what a handle is seen to lead to is what it leads to
  same_operation : (p : Ptr Operation) (v : OperationView KitOperation) (o : SeenOperation KitOp KitAttr)
      → operation_at s.program p ≡ Some v → (seen s).operation p ≡ Some o → seen_operation v ≡ o
  same_operation p v o there h = some_parts (seen_operation v) o (sym (ap (option_map seen_operation) there) ∙ h)

  same_block : (b : Ptr BasicBlock) (v : BlockView KitBlock) (o : SeenBlock)
      → block_at s.program b ≡ Some v → (seen s).block b ≡ Some o → seen_block v ≡ o
  same_block b v o there h = some_parts (seen_block v) o (sym (ap (option_map seen_block) there) ∙ h)

  same_region : (r : Ptr Region) (v : RegionView) (bs : List (Ptr BasicBlock))
      → region_at s.program r ≡ Some v → (seen s).region r ≡ Some bs → v.blocks ≡ bs
  same_region r v bs there h = some_parts v.blocks bs (sym (ap (option_map (λ x. x.blocks)) there) ∙ h)

  -- an operation with a text can be written
  head_so : (d regions : ℕ) (p : Ptr Operation) (v : OperationView KitOperation) (kind : ℕ) (results : List (N × ValueTree))
      (used successors : List N) (pieces : Pieces)
      → HasHead says Named s.types.keys (seen_operation v) kind results used successors pieces
      → map (λ x. x.1) results ≡ values.result_types kind pieces → regions_said pieces ≡ regions
      → successors_said pieces ≡ length successors → AreFlat d pieces
      → AreBare pieces → IsWritableHead s.types.keys d regions (head_of p v)
  head_so d regions p v kind results used successors pieces h read holds counted flat bare = record {
    kind = kind;
    said = h.said;
    pieces = pieces;
    shapes = map (λ x. x.1) results;
    says_it = ap (λ tys. says.of_operation v.payload.kind v.payload.notes.attributes (length v.operands) tys)
        (types_same v.results) ∙ h.says_it;
    shown = h.shown;
    typed = subst (λ tys. Pairs (ShowsType says s.types.keys) tys (map (λ x. x.1) results)) (sym (types_same v.results))
        (typed_so v.results results h.defines);
    read = read;
    holds = holds;
    flat = flat;
    bare = bare;
    counted = counted ∙ sym (as_long Named.block v.successors successors h.goes_on);
  }

  mutual
    operations_so : (d : ℕ) (ps : List (Ptr Operation)) (x : KitPart Operations) (ts : Entities N)
        → AreTree s.program Operations ps x → HaveTrees says Named HasOwnLabel (seen s) ps ts → AreOperations values ts
        → AreShallow d ts → AreBareTrees ts → IsWritable s.types.keys d x
    operations_so d [] x ts no_operations h closed shallow bare = tt
    operations_so d (p ∷ ps) x no_entity (first_operation _ _ v rs rest there inner after) h closed shallow bare = absurd h
    operations_so d (p ∷ ps) x (an_entity (entity (operation kind results used successors pieces) us) ts)
        (first_operation _ _ v rs rest there inner after) h closed shallow bare =
        let here = h.0 in
        let is : seen_operation v ≡ here.0 = same_operation p v here.0 there here.1 in
        let head = subst (λ o. HasHead says Named s.types.keys o kind results used successors pieces) (sym is) here.2 in
        let trees = subst (λ (o : SeenOperation KitOp KitAttr). HaveRegionTrees says Named HasOwnLabel (seen s) o.regions us) (sym is) here.3 in (
          head_so d (count_of rs) p v kind results used successors pieces head closed.0.0
              (closed.0.1 ∙ as_many v.regions rs us inner trees) closed.0.2 shallow.0.0 bare.0.0,
          regions_so d v.regions rs us inner trees closed.0.3 shallow.0.1 bare.0.1,
          operations_so d ps rest ts after h.1 closed.1 shallow.1 bare.1,
        )
    operations_so d (p ∷ ps) x (an_entity (entity a_region us) ts) (first_operation _ _ v rs rest there inner after) h closed shallow bare = absurd h.0
    operations_so d (p ∷ ps) x (an_entity (entity (block named label arguments) us) ts) (first_operation _ _ v rs rest there inner after) h closed shallow bare = absurd h.0

    regions_so : (d : ℕ) (rs : List (Ptr Region)) (x : KitPart Regions) (ts : Entities N)
        → AreTree s.program Regions rs x → HaveRegionTrees says Named HasOwnLabel (seen s) rs ts → AreRegions values ts
        → AreShallow d ts → AreBareTrees ts → IsWritable s.types.keys d x
    regions_so d [] x ts no_regions h closed shallow bare = tt
    regions_so d (r ∷ rs) x no_entity (first_region _ _ v bs rest there inner after) h closed shallow bare = absurd h
    regions_so d (r ∷ rs) x (an_entity (entity a_region us) ts) (first_region _ _ v bs rest there inner after) h closed shallow bare =
        let here = h.0 in
        let is : v.blocks ≡ here.0 = same_region r v here.0 there here.1 in
        let trees = subst (λ ks. HaveBlockTrees says Named HasOwnLabel (seen s) ks us) (sym is) here.2 in (
          deeper d (λ e. AreShallow e us) (λ e. IsWritable s.types.keys e bs)
              (λ e low. blocks_so e v.blocks bs us inner trees closed.0 low bare.0.1) shallow.0.1,
          regions_so d rs rest ts after h.1 closed.1 shallow.1 bare.1,
        )
    regions_so d (r ∷ rs) x (an_entity (entity (operation kind results used successors pieces) us) ts) (first_region _ _ v bs rest there inner after) h closed shallow bare = absurd h.0
    regions_so d (r ∷ rs) x (an_entity (entity (block named label arguments) us) ts) (first_region _ _ v bs rest there inner after) h closed shallow bare = absurd h.0

    blocks_so : (d : ℕ) (bs : List (Ptr BasicBlock)) (x : KitPart Blocks) (ts : Entities N)
        → AreTree s.program Blocks bs x → HaveBlockTrees says Named HasOwnLabel (seen s) bs ts → AreBlocks values ts
        → AreShallow d ts → AreBareTrees ts → IsWritable s.types.keys d x
    blocks_so d [] x ts no_blocks h closed shallow bare = tt
    blocks_so d (b ∷ bs) x no_entity (first_block _ _ v os rest there inner after) h closed shallow bare = absurd h
    blocks_so d (b ∷ bs) x (an_entity (entity (block named label arguments) us) ts) (first_block _ _ v os rest there inner after) h closed shallow bare =
        let here = h.0 in
        let is : seen_block v ≡ here.0 = same_block b v here.0 there here.1 in
        let bare_block : length v.payload.attributes ≡ 0 = subst (λ (o : SeenBlock). o.attributes ≡ 0) (sym is) here.2.no_attributes in
        let defines = subst (λ (o : SeenBlock). Pairs (HasDefinition says Named s.types.keys) o.arguments arguments) (sym is) here.4 in
        let trees = subst (λ (o : SeenBlock). HaveTrees says Named HasOwnLabel (seen s) o.operations us) (sym is) here.5 in (
          record {
            no_attributes = is_none v.payload.attributes bare_block;
            arguments = record {
              shapes = map (λ y. y.1) arguments;
              shown = subst (λ tys. Pairs (ShowsType says s.types.keys) tys (map (λ y. y.1) arguments))
                  (sym (types_same v.arguments)) (typed_so v.arguments arguments defines);
              flat = flat_so d arguments shallow.0.0;
              bare = bare_so arguments bare.0.0;
            };
          },
          operations_so d v.operations os us inner trees closed.0 shallow.0.1 bare.0.1,
          blocks_so d bs rest ts after h.1 closed.1 shallow.1 bare.1,
        )
    blocks_so d (b ∷ bs) x (an_entity (entity (operation kind results used successors pieces) us) ts) (first_block _ _ v os rest there inner after) h closed shallow bare = absurd h.0
    blocks_so d (b ∷ bs) x (an_entity (entity a_region us) ts) (first_block _ _ v os rest there inner after) h closed shallow bare = absurd h.0

  -- so it is of an operation with a closed tree
  pub root_so : (root : Ptr Operation) (e : Entity N) (t : KitTree) → StandsForTexts says Named (seen s) root e
      → IsClosedTree kit_language e → StandsFor s.program root t → IsWritableRoot s.types.keys t
  root_so root (entity (operation kind results used successors pieces) us) t h closed stands =
      let is : seen_operation stands.view ≡ h.0 = same_operation root stands.view h.0 stands.there h.1 in
      let head = subst (λ o. HasHead says Named s.types.keys o kind results used successors pieces) (sym is) h.2 in
      let trees = subst (λ (o : SeenOperation KitOp KitAttr). HaveRegionTrees says Named HasOwnLabel (seen s) o.regions us) (sym is) h.3 in
      let count = as_many stands.view.regions t.regions us stands.regions trees in
      record {
        head = subst (IsWritableHead s.types.keys 64 (count_of t.regions)) (sym stands.head)
            (head_so 64 (count_of t.regions) root stands.view kind results used successors pieces head closed.operation.0
            (closed.operation.1 ∙ count) closed.operation.2 closed.shallow.0 closed.bare.0);
        regions = regions_so 64 stands.view.regions t.regions us stands.regions trees closed.operation.3 closed.shallow.1
            closed.bare.1;
      }
  root_so root (entity a_region us) t h closed stands = absurd h
  root_so root (entity (block named label arguments) us) t h closed stands = absurd h
