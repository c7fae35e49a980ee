-- Trees of two contexts that stand for one text are alike.
use Rattle.std.proofs.Common.{◌≡◌, ℕ, List, [], ◌∷◌, length, map, Option, Some, option_and_then, sym, ap, ◌∙◌, subst}
use Rattle.std.proofs.Common.{arith}
use Rattle.std.proofs.lemmas.Option.{same_Some}
use Rattle.ir_base.specs.declared.types.TypeHandle.{TypeHandle}
use Rattle.ir_print.specs.Pieces.{ValueTree, Pieces, operation, a_region, block, Entity, entity, Entities, no_entity}
use Rattle.ir_print.specs.Pieces.{an_entity}
use Rattle.ir_print.specs.Shown.{Pairs, ShowsType}
use Rattle.ir_program.specs.Program.{OperationView, TypedValue, type_at}
use Rattle.ir_program.specs.declared.handles.Ptr.{Ptr}
use Rattle.ir_program.specs.declared.handles.Operation.{Operation}
use Rattle.ir_program.specs.declared.handles.Region.{Region}
use Rattle.ir_program.specs.declared.handles.BasicBlock.{BasicBlock}
use Rattle.ir_program.specs.declared.handles.Value.{Value}
use Rattle.ir_trees.specs.Stands.{head_of, label_of, defined_by, AreTree, no_operations, no_blocks, no_regions}
use Rattle.ir_trees.specs.Stands.{first_operation}
use Rattle.ir_trees.specs.Stands.{first_block, first_region, ProgramHead, StandsFor}
use Rattle.ir_trees.specs.Trees.{Operations, Blocks, Regions}
use Rattle.ir_types.specs.Interned.{key_at}
use Rattle.kit.specs.Context.{KitContext, KitTree}
use Rattle.text_dialect.specs.Seen.{SeenOperation, SeenBlock, seen, seen_operation, seen_block, types_of}
use Rattle.text_dialect.specs.Standing.{HasDefinition, HasHead, HasTree, HaveRegionTrees, HaveBlockTrees, HaveTrees}
use Rattle.text_rereading.specs.Rereading.{Numbering, Named}
use Rattle.kit.specs.Meaning.{KitOperation, KitBlock}
use Rattle.kit_ops.specs.declared.attributes.KitAttr.{KitAttr}
use Rattle.kit_ops.specs.declared.kinds.KitOp.{KitOp}
use Rattle.kit.specs.Forms.{number_of}
use Rattle.kit.specs.Says.{says}
use Rattle.kit_checks.specs.Rules.{IsCommon}
use Rattle.kit_checks.specs.Words.{Every, integer_in}
use Rattle.kit_checks.specs.World.{Attributes, world_of}
use Rattle.kit_text_programs.specs.Laws.{HaveOwnNumbers}
use Rattle.kit.specs.Readable.{numbered_kind}
use Rattle.kit_text_programs.proofs.SaidHeads.{said_parts}
use Rattle.kit_text_programs.proofs.SaidFunctions.{KitPart, same_operation, same_label, same_region}
use Rattle.kit_text_programs.proofs.Unlabelled.{HasSomeLabel}
use Rattle.kit_text_programs.specs.Alike.{AreBoth, AreDefinedAlike, AreHeads, AreIntegers, AreAlike, operations}
use Rattle.kit_text_programs.specs.Alike.{blocks, regions}
use Rattle.kit_text_programs.specs.Alike as alike
use Rattle.kit_text_programs.specs.Same.{IsSameType, IsSameValue, IsSameBlock}
use Rattle.kit_text_programs.specs.RuleLaws.{AreAlikeIn}
use Rattle.kit_text_programs.proofs.WrittenTypes.{AreWritten, HasWrittenTypes, IsWritten}
use Rattle.kit_text_programs.proofs.ReadHeads.{name_read, IsRead, read}
use Rattle.kit_text_programs.proofs.SameTypes.{type_same}

abbrev KitHead : Type 0
KitHead = ProgramHead KitOperation KitBlock

first_same : {X : Type 0} (x y : X) (xs ys : List X) → x ∷ xs ≡ y ∷ ys → x ≡ y
first_same x y xs ys e = cc

-- both are there
are_both : {X Y : Type 0} (R : X → Y → Type 0) (o : Option X) (p : Option Y) (x : X) (y : Y) → o ≡ Some x → p ≡ Some y
    → R x y → AreBoth R o p
are_both R o p x y e f r =
    subst (λ q. AreBoth R q p) (sym e) (subst (λ q. AreBoth R (Some x) q) (sym f) r)

-- what is named by the same numbers, one by one
numbered_alike : {X : Type 0} (R S : X → ℕ → Type 0) (xs ys : List X) (ns : List ℕ) → Pairs R xs ns → Pairs S ys ns
    → Pairs (λ x y. (n : ℕ) × R x n × S y n) xs ys
numbered_alike R S [] [] ns h k = tt
numbered_alike R S [] (y ∷ ys) [] h k = absurd k
numbered_alike R S [] (y ∷ ys) (n ∷ ns) h k = absurd h
numbered_alike R S (x ∷ xs) ys [] h k = absurd h
numbered_alike R S (x ∷ xs) [] (n ∷ ns) h k = absurd k
numbered_alike R S (x ∷ xs) (y ∷ ys) (n ∷ ns) h k = ((n, h.0, k.0), numbered_alike R S xs ys ns h.1 k.1)

-- there are no attributes, so all are such that all may have them
none_but_common : (es : Attributes) → length es ≡ 0 → Every IsCommon es
none_but_common [] e = λ k x at. cc
none_but_common (x ∷ es) e = absurd (omega arith)

module _ (s z : KitContext) (numbering others : Numbering) (own : HaveOwnNumbers numbering)
    (owns : HaveOwnNumbers others) where
  abbrev OfTypes : TypeHandle → TypeHandle → Type 0
  OfTypes = IsSameType (key_at s.types) (key_at z.types)

  abbrev OfValues : Value → Value → Type 0
  OfValues = IsSameValue numbering others

  abbrev OfBlocks : Ptr BasicBlock → Ptr BasicBlock → Type 0
  OfBlocks = IsSameBlock numbering others

  shown_same : (a c : TypeHandle) (t : ValueTree) → ShowsType says s.types.keys a t → ShowsType says z.types.keys c t
      → OfTypes a c
  shown_same a c t h k = type_same s.types.keys z.types.keys t a c h k

  defines_alike : (vs us : List TypedValue) (xs : List (ℕ × ValueTree))
      → Pairs (HasDefinition says (Named numbering) s.types.keys) vs xs
      → Pairs (HasDefinition says (Named others) z.types.keys) us xs
      → HasWrittenTypes s (map defined_by vs) → HasWrittenTypes z (map defined_by us)
      → Pairs (AreDefinedAlike (world_of s) (world_of z) OfTypes OfValues OfBlocks) (map defined_by vs) (map defined_by us)
  defines_alike [] [] xs h k a b = tt
  defines_alike [] (u ∷ us) [] h k a b = absurd k
  defines_alike [] (u ∷ us) (n ∷ xs) h k a b = absurd h
  defines_alike (v ∷ vs) us [] h k a b = absurd h
  defines_alike (v ∷ vs) [] (n ∷ xs) h k a b = absurd k
  defines_alike (v ∷ vs) (u ∷ us) (n ∷ xs) h k a b =
      let same = shown_same v.ty u.ty n.1 h.0.1 k.0.1 in (
        (
          (
            (n.0, h.0.0, k.0.0),
            are_both OfTypes (type_at s.program v.value)
                (type_at z.program u.value) v.ty u.ty a.0 b.0 same,
          ),
          same,
        ),
        defines_alike vs us xs h.1 k.1 a.1 b.1,
      )

  -- the types of one result each are the same
  one_type : (vs us : List TypedValue) (xs : List (ℕ × ValueTree)) (a c : TypeHandle)
      → Pairs (HasDefinition says (Named numbering) s.types.keys) vs xs
      → Pairs (HasDefinition says (Named others) z.types.keys) us xs → types_of vs ≡ a ∷ [] → types_of us ≡ c ∷ []
      → OfTypes a c
  one_type [] us xs a c h k e f = cc
  one_type (v ∷ vs) [] xs a c h k e f = cc
  one_type (v ∷ vs) (u ∷ us) [] a c h k e f = absurd h
  one_type (v ∷ vs) (u ∷ us) (n ∷ xs) a c h k e f =
      subst (λ x. OfTypes x c) (first_same v.ty a (types_of vs) [] e)
      (subst (λ x. OfTypes v.ty x) (first_same u.ty c (types_of us) [] f) (shown_same v.ty u.ty n.1 h.0.1 k.0.1))

  -- ---- heads

  module _ (p : Ptr Operation) (q : Ptr Operation) (v u : OperationView KitOperation) (kind : ℕ)
      (results : List (ℕ × ValueTree)) (used successors : List ℕ) (pieces : Pieces)
      (h : HasHead says (Named numbering) s.types.keys (seen_operation v) kind results used successors pieces)
      (k : HasHead says (Named others) z.types.keys (seen_operation u) kind results used successors pieces)
      (a : HasWrittenTypes s (map defined_by v.results)) (b : HasWrittenTypes z (map defined_by u.results)) where
    has_number : number_of v.payload.kind ≡ Some kind
    has_number = (said_parts v.payload.kind v.payload.notes.attributes _ _ kind h.said h.says_it).2

    too : number_of u.payload.kind ≡ Some kind
    too = (said_parts u.payload.kind u.payload.notes.attributes _ _ kind k.said k.says_it).2

    kinds_same : v.payload.kind ≡ u.payload.kind
    kinds_same = same_Some v.payload.kind u.payload.kind
        (sym (numbered_kind v.payload.kind kind has_number) ∙ numbered_kind u.payload.kind kind too)

    here : IsRead s.types.keys v.payload.kind v.payload.notes.attributes (types_of v.results) pieces
    here = read s.types.keys v.payload.notes.attributes _ _ kind h.said pieces h.shown v.payload.kind h.says_it

    there : IsRead z.types.keys u.payload.kind u.payload.notes.attributes (types_of u.results) pieces
    there = read z.types.keys u.payload.notes.attributes _ _ kind k.said pieces k.shown u.payload.kind k.says_it

    heads_alike : AreHeads (world_of s) (world_of z) OfTypes OfValues OfBlocks (head_of p v) (head_of q u)
    heads_alike = record {
      kinds = kinds_same;
      operands = numbered_alike (Named numbering).value (Named others).value v.operands u.operands used h.mentions
          k.mentions;
      results = defines_alike v.results u.results results h.defines k.defines a b;
      successors = numbered_alike (Named numbering).block (Named others).block v.successors u.successors successors
          h.goes_on k.goes_on;
      names = here.names ∙ ap (λ (o : KitOp). name_read o pieces) kinds_same ∙ sym there.names;
      types = λ is. let x = here.types is in let y = there.types (sym kinds_same ∙ is) in
          are_both OfTypes _ _ x.0 y.0 x.4 y.4 (shown_same x.0 y.0 x.1 x.2
          (subst (ShowsType says z.types.keys y.0) (same_Some y.1 x.1 (sym y.3 ∙ x.3)) y.2));
      constants = λ is. let x = here.valued is in let y = there.valued (sym kinds_same ∙ is) in
          are_both (AreIntegers (world_of s) (world_of z) OfTypes OfValues OfBlocks) _ _ x.0 y.0
          (ap (option_and_then integer_in) x.1) (ap (option_and_then integer_in) y.1) (record {
            bits = x.2 ∙ sym y.2;
            integer = same_Some x.0.integer y.0.integer (sym x.3 ∙ y.3);
            types = one_type v.results u.results results x.0.ty y.0.ty h.defines k.defines x.4 y.4;
          });
      valued = λ is. let x = here.valued is in (x.0, x.1);
      sizes = λ is. here.sizes is ∙ sym (there.sizes (sym kinds_same ∙ is));
      own = here.own;
      callees = λ is. let x = here.called is in let y = there.called (sym kinds_same ∙ is) in x.5 ∙ sym y.5;
      callee_types = λ is. let x = here.called is in let y = there.called (sym kinds_same ∙ is) in
          are_both OfTypes _ _ x.0 y.0 x.4 y.4 (shown_same x.0 y.0 x.1 x.2
          (subst (ShowsType says z.types.keys y.0) (same_Some y.1 x.1 (sym y.3 ∙ x.3)) y.2));
    }

  -- ---- trees

  mutual
    operations_alike : (ps qs : List (Ptr Operation)) (x y : KitPart Operations) (ts : Entities ℕ)
        → AreTree s.program Operations ps x → AreTree z.program Operations qs y
        → HaveTrees says (Named numbering) HasSomeLabel (seen s) ps ts
        → HaveTrees says (Named others) HasSomeLabel (seen z) qs ts → AreWritten s x → AreWritten z y
        → AreAlike (world_of s) (world_of z) OfTypes OfValues OfBlocks Operations x y
    operations_alike [] [] x y no_entity no_operations no_operations h k a b = alike.no_operations
    operations_alike [] qs x y (an_entity t ts) no_operations tree h k a b = absurd h
    operations_alike [] (q ∷ qs) x y no_entity no_operations tree h k a b = absurd k
    operations_alike (p ∷ ps) qs x y no_entity tree other h k a b = absurd h
    operations_alike (p ∷ ps) [] x y (an_entity t ts) tree no_operations h k a b = absurd k
    operations_alike (p ∷ ps) (q ∷ qs) x y (an_entity (entity (operation kind results used successors pieces) us) ts)
        (first_operation _ _ v rs rest there inner after) (first_operation _ _ u ss more thither within behind) h k a
        b =
        let hs = h.0 in
        let ks = k.0 in
        let is : seen_operation v ≡ hs.0 = same_operation s numbering own (λ _. 0) p v hs.0 there hs.1 in
        let was : seen_operation u ≡ ks.0 = same_operation z others owns (λ _. 0) q u ks.0 thither ks.1 in
        operations (head_of p v) (head_of q u) rs ss rest more
        (heads_alike p q v u kind results used successors pieces
        (subst (λ o. HasHead says (Named numbering) s.types.keys o kind results used successors pieces) (sym is) hs.2)
        (subst (λ o. HasHead says (Named others) z.types.keys o kind results used successors pieces) (sym was) ks.2) a.0 b.0)
        (regions_alike v.regions u.regions rs ss us inner within
        (subst (λ (o : SeenOperation KitOp KitAttr). HaveRegionTrees says (Named numbering) HasSomeLabel
        (seen s) o.regions us)
        (sym is) hs.3)
        (subst (λ (o : SeenOperation KitOp KitAttr). HaveRegionTrees says (Named others) HasSomeLabel
        (seen z) o.regions us)
        (sym was) ks.3) a.1 b.1)
        (operations_alike ps qs rest more ts after behind h.1 k.1 a.2 b.2)
    operations_alike (p ∷ ps) (q ∷ qs) x y (an_entity (entity a_region us) ts) tree other h k a b = absurd h.0
    operations_alike (p ∷ ps) (q ∷ qs) x y (an_entity (entity
        (block named label arguments) us) ts) tree other h k a b = absurd h.0

    blocks_alike : (ps qs : List (Ptr BasicBlock)) (x y : KitPart Blocks) (ts : Entities ℕ)
        → AreTree s.program Blocks ps x → AreTree z.program Blocks qs y
        → HaveBlockTrees says (Named numbering) HasSomeLabel (seen s) ps ts
        → HaveBlockTrees says (Named others) HasSomeLabel (seen z) qs ts → AreWritten s x → AreWritten z y
        → AreAlike (world_of s) (world_of z) OfTypes OfValues OfBlocks Blocks x y
    blocks_alike [] [] x y no_entity no_blocks no_blocks h k a b = alike.no_blocks
    blocks_alike [] qs x y (an_entity t ts) no_blocks tree h k a b = absurd h
    blocks_alike [] (q ∷ qs) x y no_entity no_blocks tree h k a b = absurd k
    blocks_alike (p ∷ ps) qs x y no_entity tree other h k a b = absurd h
    blocks_alike (p ∷ ps) [] x y (an_entity t ts) tree no_blocks h k a b = absurd k
    blocks_alike (p ∷ ps) (q ∷ qs) x y (an_entity (entity (block named label arguments) us) ts)
        (first_block _ _ v os rest there inner after) (first_block _ _ u ms more thither within behind) h k a b =
        let hs = h.0 in
        let ks = k.0 in
        let is : seen_block v ≡ hs.0 = same_label s numbering own (λ _. 0) p v hs.0 there hs.1 in
        let was = same_label z others owns (λ _. 0) q u ks.0 thither ks.1 in
        blocks (label_of p v) (label_of q u) os ms rest more (named, hs.3, ks.3)
        (defines_alike v.arguments u.arguments arguments
        (subst (λ (o : SeenBlock). Pairs (HasDefinition says (Named numbering) s.types.keys) o.arguments arguments)
        (sym is) hs.4)
        (subst (λ (o : SeenBlock). Pairs (HasDefinition says (Named others) z.types.keys) o.arguments arguments)
        (sym was) ks.4)
        a.0 b.0)
        (none_but_common v.payload.attributes
        (ap (λ (o : SeenBlock). o.attributes) is ∙ (hs.2).1.no_attributes))
        (operations_alike v.operations u.operations os ms us inner within
        (subst (λ (o : SeenBlock). HaveTrees says (Named numbering) HasSomeLabel (seen s) o.operations us) (sym is) hs.5)
        (subst (λ (o : SeenBlock). HaveTrees says (Named others) HasSomeLabel (seen z) o.operations us) (sym was) ks.5)
        a.1 b.1)
        (blocks_alike ps qs rest more ts after behind h.1 k.1 a.2 b.2)
    blocks_alike (p ∷ ps) (q ∷ qs) x y (an_entity (entity a_region us) ts) tree other h k a b = absurd h.0
    blocks_alike (p ∷ ps) (q ∷ qs) x y (an_entity (entity (operation kind results used successors pieces) us) ts) tree other h k
        a b =
        absurd h.0

    regions_alike : (ps qs : List (Ptr Region)) (x y : KitPart Regions) (ts : Entities ℕ)
        → AreTree s.program Regions ps x → AreTree z.program Regions qs y
        → HaveRegionTrees says (Named numbering) HasSomeLabel (seen s) ps ts
        → HaveRegionTrees says (Named others) HasSomeLabel (seen z) qs ts → AreWritten s x → AreWritten z y
        → AreAlike (world_of s) (world_of z) OfTypes OfValues OfBlocks Regions x y
    regions_alike [] [] x y no_entity no_regions no_regions h k a b = alike.no_regions
    regions_alike [] qs x y (an_entity t ts) no_regions tree h k a b = absurd h
    regions_alike [] (q ∷ qs) x y no_entity no_regions tree h k a b = absurd k
    regions_alike (p ∷ ps) qs x y no_entity tree other h k a b = absurd h
    regions_alike (p ∷ ps) [] x y (an_entity t ts) tree no_regions h k a b = absurd k
    regions_alike (p ∷ ps) (q ∷ qs) x y (an_entity (entity a_region us) ts)
        (first_region _ _ v bs rest there inner after) (first_region _ _ u cs more thither within behind) h k a b =
        let hs = h.0 in
        let ks = k.0 in
        let is = same_region s numbering own (λ _. 0) p v hs.0 there hs.1 in
        let was = same_region z others owns (λ _. 0) q u ks.0 thither ks.1 in
        regions bs cs rest more
        (blocks_alike v.blocks u.blocks bs cs us inner within
        (subst (λ ms. HaveBlockTrees says (Named numbering) HasSomeLabel (seen s) ms us) (sym is) hs.2)
        (subst (λ ms. HaveBlockTrees says (Named others) HasSomeLabel (seen z) ms us) (sym was) ks.2) a.0 b.0)
        (regions_alike ps qs rest more ts after behind h.1 k.1 a.1 b.1)
    regions_alike (p ∷ ps) (q ∷ qs) x y (an_entity (entity (block named label arguments) us) ts) tree other h k a b =
        absurd h.0
    regions_alike (p ∷ ps) (q ∷ qs) x y (an_entity (entity (operation kind results used successors pieces) us) ts) tree other h
        k a b =
        absurd h.0

  -- the trees that stand for one text are alike
  pub trees_alike : (text : Entity ℕ) (root other : Ptr Operation) (t u : KitTree)
      → HasTree says (Named numbering) HasSomeLabel (seen s) root text
      → HasTree says (Named others) HasSomeLabel (seen z) other text → StandsFor s.program root t
      → StandsFor z.program other u → IsWritten s t → IsWritten z u → AreAlikeIn s z numbering others t u
  trees_alike (entity (operation kind results used successors pieces) us) root other t u h k stands standing a b =
      let v = stands.view in
      let w = standing.view in
      let is : seen_operation v ≡ h.0 = same_operation s numbering own (λ _. 0) root v h.0 stands.there h.1 in
      let was : seen_operation w ≡ k.0 = same_operation z others owns (λ _. 0) other w k.0 standing.there k.1 in
      record {
        heads = subst (λ g. AreHeads (world_of s) (world_of z) OfTypes OfValues OfBlocks g u.head) (sym stands.head)
            (subst (λ g. AreHeads (world_of s) (world_of z) OfTypes OfValues OfBlocks (head_of root v) g) (sym standing.head)
            (heads_alike root other v w kind results used successors pieces
            (subst (λ o. HasHead says (Named numbering) s.types.keys o kind results used successors pieces) (sym is) h.2)
            (subst (λ o. HasHead says (Named others) z.types.keys o kind results used successors pieces) (sym was) k.2)
            (subst (λ (g : KitHead). HasWrittenTypes s g.results) stands.head a.results)
            (subst (λ (g : KitHead). HasWrittenTypes z g.results) standing.head b.results)));
        inside = regions_alike v.regions w.regions t.regions u.regions us stands.regions standing.regions
            (subst (λ (o : SeenOperation KitOp KitAttr). HaveRegionTrees says (Named numbering) HasSomeLabel
            (seen s) o.regions us)
            (sym is) h.3)
            (subst (λ (o : SeenOperation KitOp KitAttr). HaveRegionTrees says (Named others) HasSomeLabel
            (seen z) o.regions us)
            (sym was) k.3) a.inside b.inside;
      }
  trees_alike (entity a_region us) root other t u h k stands standing a b = absurd h
  trees_alike (entity (block named label arguments) us) root other t u h k stands standing a b = absurd h
