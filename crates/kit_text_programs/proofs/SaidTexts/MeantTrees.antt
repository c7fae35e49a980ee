-- Trees that stand for texts mean what the texts say.
use Rattle.std.proofs.Common.{◌≡◌, ℕ, List, [], ◌∷◌, ◌++◌, map, refl, sym, ap, ◌∙◌, subst}
use Rattle.ir_base.specs.declared.types.TypeHandle.{TypeHandle}
use Rattle.ir_print.specs.Pieces.{ValueTree, operation, a_region, block, Entity, entity, Entities, no_entity, an_entity}
use Rattle.ir_print.specs.Shown.{Pairs}
use Rattle.ir_program.specs.declared.handles.BasicBlock.{BasicBlock}
use Rattle.ir_program.specs.declared.handles.Operation.{Operation}
use Rattle.ir_program.specs.declared.handles.Ptr.{Ptr}
use Rattle.ir_program.specs.declared.handles.Region.{Region}
use Rattle.ir_trees.specs.Renames.{no_names, forget, rename, rename_head, rename_root, names_of, values_at, values_in}
use Rattle.ir_trees.specs.Renames.{values_of, blocks_in, blocks_of}
use Rattle.ir_trees.specs.Stands.{head_of, defined_by, AreTree, no_operations, no_blocks}
use Rattle.ir_trees.specs.Stands.{no_regions, first_operation, first_block, first_region, ProgramHead, StandsFor}
use Rattle.ir_trees.specs.Trees.{Sort, Operations, Blocks, Regions, Tree}
use Rattle.ir_trees.specs.Trees as trees
use Rattle.kit.specs.Context.{KitContext, KitTree}
use Rattle.opt_meanings.specs.Meanings.{mean_defined, mean_head, mean, mean_root}
use Rattle.text_dialect.specs.Seen.{SeenOperation, SeenBlock, seen, seen_operation, seen_block}
use Rattle.text_dialect.specs.Standing.{HasDefinition, HasHead, HasTree, HaveRegionTrees, HaveBlockTrees, HaveTrees}
use Rattle.text_rereading.specs.Rereading.{Numbering, Named}
use Rattle.kit.specs.Meaning.{KitOperation, KitBlock}
use Rattle.kit_ops.specs.declared.attributes.KitAttr.{KitAttr}
use Rattle.kit_ops.specs.declared.kinds.KitOp.{KitOp}
use Rattle.kit.specs.Says.{says}
use Rattle.kit_text_programs.specs.Laws.{HaveOwnNumbers}
use Rattle.kit_text_programs.proofs.SaidFunctions.{KitPart, same_operation, same_label, same_region}
use Rattle.kit_text_programs.proofs.SaidPrograms.{numbers_in}
use Rattle.kit_text_programs.proofs.Unlabelled.{HasSomeLabel}
use Rattle.kit_text_programs.proofs.AlikeLists.{pairs_joined}
use Rattle.kit_text_programs.specs.SameLaws.{types_among, types_in_text, types_in_texts}
use Rattle.kit_text_programs.specs.Meanings.{sayings, meanings}
use Rattle.kit_text_programs.proofs.SaidTexts.MeantHeads.{types_in, defined_named, head_named, head_meant, label_meant}
use Rattle.kit_text_programs.proofs.SaidTexts.SaidAttributes.{Numbered, numbered_front, numbered_back}
use Rattle.kit_text_programs.proofs.SaidTexts.SaidMeanings.{all_values, root_values, all_blocks, root_blocks, operations_said, blocks_said}
use Rattle.kit_text_programs.proofs.SaidTexts.SaidMeanings.{regions_said, root_said}

abbrev KitHead : Type 0
KitHead = ProgramHead KitOperation KitBlock

module _ (number : ValueTree → ℕ) (code : TypeHandle → ℕ) (s : KitContext) (numbering : Numbering)
    (own : HaveOwnNumbers numbering) where
  abbrev Coded : List ValueTree → Type 0
  Coded = Numbered number code s.types.keys

  -- a part of a tree means this, and names values and blocks with these numbers
  record IsSaid {k : Sort} (x : KitPart k) (said : Tree no_names sayings k) (ns bs : List ℕ) : Type 0 where
    shape : rename forget (mean (meanings code) x) ≡ said
    named : Pairs (Named numbering).value (values_in (mean (meanings code) x)) ns
    blocks : Pairs (Named numbering).block (blocks_in (mean (meanings code) x)) bs

  front : (xs ys : List ValueTree) → Coded (xs ++ ys) → Coded xs
  front = numbered_front number code s.types.keys

  back : (xs ys : List ValueTree) → Coded (xs ++ ys) → Coded ys
  back = numbered_back number code s.types.keys

  -- blocks that are named in two parts
  both_blocks : {k l : Sort} (x : KitPart k) (y : KitPart l) (bs cs : List ℕ)
      → Pairs (Named numbering).block (blocks_in (mean (meanings code) x)) bs
      → Pairs (Named numbering).block (blocks_in (mean (meanings code) y)) cs
      → Pairs (Named numbering).block (blocks_in (mean (meanings code) x) ++ blocks_in (mean (meanings code) y)) (bs ++ cs)
  both_blocks x y bs cs h k =
      pairs_joined (Named numbering).block (blocks_in (mean (meanings code) x)) (blocks_in (mean (meanings code) y)) bs cs h k

  mutual
    operations_mean : (ps : List (Ptr Operation)) (x : KitPart Operations) (ts : Entities ℕ)
        → AreTree s.program Operations ps x → HaveTrees says (Named numbering) HasSomeLabel (seen s) ps ts
        → Coded (types_in_texts ts) → IsSaid x (operations_said number ts) (all_values ts) (all_blocks ts)
    operations_mean [] x no_entity no_operations h n = record { shape = refl; named = tt; blocks = tt }
    operations_mean [] x (an_entity t ts) no_operations h n = absurd h
    operations_mean (p ∷ ps) x no_entity tree h n = absurd h
    operations_mean (p ∷ ps) x (an_entity (entity (operation kind results used successors pieces) us) ts)
        (first_operation _ _ v rs rest there inner after) h n =
        let hs = h.0 in
        let is : seen_operation v ≡ hs.0 = same_operation s numbering own (λ _. 0) p v hs.0 there hs.1 in
        let head = subst (λ o. HasHead says (Named numbering) s.types.keys o kind results used successors pieces) (sym is) hs.2 in
        let types : List ValueTree = types_in results ++ types_among pieces in
        let first = front (types ++ types_in_texts us) (types_in_texts ts) n in
        let inside = regions_mean v.regions rs us inner
        (subst (λ (o : SeenOperation KitOp KitAttr). HaveRegionTrees says (Named numbering) HasSomeLabel (seen s) o.regions us)
        (sym is) hs.3) (back types (types_in_texts us) first) in
        let behind = operations_mean ps rest ts after h.1 (back (types ++ types_in_texts us) (types_in_texts ts) n) in
        let same = head_meant number code s.types.keys numbering p v kind results used successors pieces head
        (front types (types_in_texts us) first) in
        record {
          shape = λ i. trees.operation (same i) (inside.shape i) (behind.shape i);
          named = pairs_joined (Named numbering).value (values_at (mean_head (meanings code) (head_of p v)))
              (values_in (mean (meanings code) rs) ++ values_in (mean (meanings code) rest)) (numbers_in results ++ used)
              (all_values us ++ all_values ts)
              (head_named number code s.types.keys numbering p v kind results used successors pieces head)
              (pairs_joined (Named numbering).value (values_in (mean (meanings code) rs)) (values_in (mean (meanings code) rest))
              (all_values us) (all_values ts) inside.named behind.named);
          blocks = pairs_joined (Named numbering).block v.successors
              (blocks_in (mean (meanings code) rs) ++ blocks_in (mean (meanings code) rest)) successors
              (all_blocks us ++ all_blocks ts) head.goes_on (both_blocks rs rest (all_blocks us) (all_blocks ts)
              inside.blocks behind.blocks);
        }
    operations_mean (p ∷ ps) x (an_entity (entity a_region us) ts) tree h n = absurd h.0
    operations_mean (p ∷ ps) x (an_entity (entity (block named label arguments) us) ts) tree h n = absurd h.0

    blocks_mean : (ps : List (Ptr BasicBlock)) (x : KitPart Blocks) (ts : Entities ℕ)
        → AreTree s.program Blocks ps x → HaveBlockTrees says (Named numbering) HasSomeLabel (seen s) ps ts
        → Coded (types_in_texts ts) → IsSaid x (blocks_said number ts) (all_values ts) (all_blocks ts)
    blocks_mean [] x no_entity no_blocks h n = record { shape = refl; named = tt; blocks = tt }
    blocks_mean [] x (an_entity t ts) no_blocks h n = absurd h
    blocks_mean (p ∷ ps) x no_entity tree h n = absurd h
    blocks_mean (p ∷ ps) x (an_entity (entity (block named label arguments) us) ts)
        (first_block _ _ v os rest there inner after) h n =
        let hs = h.0 in
        let is : seen_block v ≡ hs.0 = same_label s numbering own (λ _. 0) p v hs.0 there hs.1 in
        let defines = subst (λ (o : SeenBlock). Pairs (HasDefinition says (Named numbering) s.types.keys) o.arguments arguments)
        (sym is) hs.4 in
        let types : List ValueTree = types_in arguments in
        let first = front (types ++ types_in_texts us) (types_in_texts ts) n in
        let inside = operations_mean v.operations os us inner
        (subst (λ (o : SeenBlock). HaveTrees says (Named numbering) HasSomeLabel (seen s) o.operations us) (sym is) hs.5)
        (back types (types_in_texts us) first) in
        let behind = blocks_mean ps rest ts after h.1 (back (types ++ types_in_texts us) (types_in_texts ts) n) in
        let none = ap (λ (o : SeenBlock). o.attributes) is ∙ hs.2.1.no_attributes in
        let same = label_meant number code s.types.keys numbering p v arguments none defines
        (front types (types_in_texts us) first) in
        record {
          shape = λ i. trees.block (same i) (inside.shape i) (behind.shape i);
          named = pairs_joined (Named numbering).value (names_of (map (mean_defined code) (map defined_by v.arguments)))
              (values_in (mean (meanings code) os) ++ values_in (mean (meanings code) rest)) (numbers_in arguments)
              (all_values us ++ all_values ts)
              (defined_named number code s.types.keys numbering v.arguments arguments defines)
              (pairs_joined (Named numbering).value (values_in (mean (meanings code) os)) (values_in (mean (meanings code) rest))
              (all_values us) (all_values ts) inside.named behind.named);
          blocks = (hs.3, both_blocks os rest (all_blocks us) (all_blocks ts) inside.blocks behind.blocks);
        }
    blocks_mean (p ∷ ps) x (an_entity (entity a_region us) ts) tree h n = absurd h.0
    blocks_mean (p ∷ ps) x (an_entity (entity (operation kind results used successors pieces) us) ts) tree h n = absurd h.0

    regions_mean : (ps : List (Ptr Region)) (x : KitPart Regions) (ts : Entities ℕ)
        → AreTree s.program Regions ps x → HaveRegionTrees says (Named numbering) HasSomeLabel (seen s) ps ts
        → Coded (types_in_texts ts) → IsSaid x (regions_said number ts) (all_values ts) (all_blocks ts)
    regions_mean [] x no_entity no_regions h n = record { shape = refl; named = tt; blocks = tt }
    regions_mean [] x (an_entity t ts) no_regions h n = absurd h
    regions_mean (p ∷ ps) x no_entity tree h n = absurd h
    regions_mean (p ∷ ps) x (an_entity (entity a_region us) ts) (first_region _ _ v bs rest there inner after) h n =
        let hs = h.0 in
        let is = same_region s numbering own (λ _. 0) p v hs.0 there hs.1 in
        let inside = blocks_mean v.blocks bs us inner
        (subst (λ ms. HaveBlockTrees says (Named numbering) HasSomeLabel (seen s) ms us) (sym is) hs.2)
        (front (types_in_texts us) (types_in_texts ts) n) in
        let behind = regions_mean ps rest ts after h.1 (back (types_in_texts us) (types_in_texts ts) n) in
        record {
          shape = λ i. trees.region (inside.shape i) (behind.shape i);
          named = pairs_joined (Named numbering).value (values_in (mean (meanings code) bs)) (values_in (mean (meanings code) rest))
              (all_values us) (all_values ts) inside.named behind.named;
          blocks = both_blocks bs rest (all_blocks us) (all_blocks ts) inside.blocks behind.blocks;
        }
    regions_mean (p ∷ ps) x (an_entity (entity (block named label arguments) us) ts) tree h n = absurd h.0
    regions_mean (p ∷ ps) x (an_entity (entity (operation kind results used successors pieces) us) ts) tree h n = absurd h.0

  -- an operation means what its text says, and names values and blocks with the numbers of the text
  pub record IsSaidRoot (t : KitTree) (text : Entity ℕ) : Type 0 where
    pub shape : rename_root forget (mean_root (meanings code) t) ≡ root_said number text
    pub named : Pairs (Named numbering).value (values_of (mean_root (meanings code) t)) (root_values text)
    pub blocks : Pairs (Named numbering).block (blocks_of (mean_root (meanings code) t)) (root_blocks text)

  pub root_means : (text : Entity ℕ) (root : Ptr Operation) (t : KitTree)
      → HasTree says (Named numbering) HasSomeLabel (seen s) root text → StandsFor s.program root t
      → Coded (types_in_text text) → IsSaidRoot t text
  root_means (entity (operation kind results used successors pieces) us) root t h stands n =
      let v = stands.view in
      let is : seen_operation v ≡ h.0 = same_operation s numbering own (λ _. 0) root v h.0 stands.there h.1 in
      let head = subst (λ o. HasHead says (Named numbering) s.types.keys o kind results used successors pieces) (sym is) h.2 in
      let types : List ValueTree = types_in results ++ types_among pieces in
      let inside = regions_mean v.regions t.regions us stands.regions
      (subst (λ (o : SeenOperation KitOp KitAttr). HaveRegionTrees says (Named numbering) HasSomeLabel (seen s) o.regions us)
      (sym is) h.3) (back types (types_in_texts us) n) in
      let same = ap (λ (g : KitHead). rename_head forget (mean_head (meanings code) g)) stands.head
      ∙ head_meant number code s.types.keys numbering root v kind results used successors pieces head
      (front types (types_in_texts us) n) in
      record {
        shape = λ i. record { head = same i; regions = inside.shape i };
        named = pairs_joined (Named numbering).value (values_at (mean_head (meanings code) t.head))
            (values_in (mean (meanings code) t.regions)) (numbers_in results ++ used) (all_values us)
            (subst (λ (g : KitHead). Pairs (Named numbering).value (values_at (mean_head (meanings code) g))
            (numbers_in results ++ used)) (sym stands.head)
            (head_named number code s.types.keys numbering root v kind results used successors pieces head)) inside.named;
        blocks = pairs_joined (Named numbering).block t.head.successors (blocks_in (mean (meanings code) t.regions))
            successors (all_blocks us)
            (subst (λ (g : KitHead). Pairs (Named numbering).block g.successors successors) (sym stands.head) head.goes_on)
            inside.blocks;
      }
  root_means (entity a_region us) root t h stands n = absurd h
  root_means (entity (block named label arguments) us) root t h stands n = absurd h
