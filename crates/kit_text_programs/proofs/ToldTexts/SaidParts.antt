-- What stands for a tree of texts, part by part: what operations and blocks say, and the numbers of values.
use Rattle.std.proofs.Common.{◌≡◌, ℕ, List, [], ◌∷◌, ◌++◌, map, sym, subst}
use Rattle.ir_base.specs.declared.types.TypeHandle.{TypeHandle}
use Rattle.ir_forest.specs.Closed as closed
use Rattle.ir_print.specs.Pieces.{Pieces, operation, a_region, block, entity, Entities, no_entity}
use Rattle.ir_print.specs.Pieces.{an_entity}
use Rattle.ir_print.specs.Shown.{Pairs}
use Rattle.ir_program.specs.Program.{OperationView, BlockView, TypedValue}
use Rattle.ir_program.specs.declared.handles.Ptr.{Ptr}
use Rattle.ir_program.specs.declared.handles.Operation.{Operation}
use Rattle.ir_program.specs.declared.handles.Region.{Region}
use Rattle.ir_program.specs.declared.handles.BasicBlock.{BasicBlock}
use Rattle.ir_trees.specs.Renames.{names_of, values_in, blocks_in}
use Rattle.ir_trees.specs.Stands.{head_of, label_of, defined_by, AreTree, first_operation, first_block, first_region}
use Rattle.ir_trees.specs.Stands as stands
use Rattle.ir_trees.specs.Trees.{Sort, Operations, Blocks, Regions, end}
use Rattle.ir_trees.specs.Trees as trees
use Rattle.kit.specs.Context.{KitContext}
use Rattle.opt_meanings.specs.Meanings.{mean, mean_defined}
use Rattle.text_dialect.specs.Seen.{SeenOperation, SeenBlock, seen, seen_operation, seen_block}
use Rattle.text_dialect.specs.Standing.{HasDefinition, HasHead, HasOwnLabel, HaveRegionTrees, HaveBlockTrees, HaveTrees}
use Rattle.text_rereading.specs.Rereading.{Numbering, Named}
use Rattle.kit.specs.Meaning.{KitOperation, KitBlock}
use Rattle.kit_ops.specs.declared.attributes.KitAttr.{KitAttr}
use Rattle.kit_ops.specs.declared.kinds.KitOp.{KitOp}
use Rattle.kit.specs.Says.{says}
use Rattle.kit_text_programs.specs.Laws.{HaveOwnNumbers}
use Rattle.kit_text_programs.proofs.SaidFunctions.{KitPart, same_operation, same_label, same_region}
use Rattle.kit_text_programs.specs.Meanings.{meanings}
use Rattle.kit_text_programs.proofs.ToldTexts.SideBySide.{pairs_parts, three_lists}
use Rattle.kit_text_programs.proofs.ToldTexts.Near.{Definitions, all_numbers, all_blocks_named}

module _ (s : KitContext) (numbering : Numbering) where
  -- a part of a tree is what these texts say
  pub data AreSaid : (k : Sort) → KitPart k → Entities ℕ → Type 0 where
    no_operations : AreSaid Operations end no_entity
    no_blocks : AreSaid Blocks end no_entity
    no_regions : AreSaid Regions end no_entity
    an_operation : (p : Ptr Operation) (v : OperationView KitOperation) (rs : KitPart Regions)
        (rest : KitPart Operations) (kind : ℕ) (results : Definitions) (used successors : List ℕ) (pieces : Pieces)
        (us ts : Entities ℕ)
        → HasHead says (Named numbering) s.types.keys (seen_operation v) kind results used successors pieces
        → AreSaid Regions rs us → AreSaid Operations rest ts
        → AreSaid Operations (trees.operation (head_of p v) rs rest)
        (an_entity (entity (operation kind results used successors pieces) us) ts)
    a_block : (b : Ptr BasicBlock) (v : BlockView KitBlock) (os : KitPart Operations) (rest : KitPart Blocks)
        (named : ℕ) (label : List ℕ) (arguments : Definitions) (us ts : Entities ℕ) → (Named numbering).block b named
        → Pairs (HasDefinition says (Named numbering) s.types.keys) v.arguments arguments
        → AreSaid Operations os us → AreSaid Blocks rest ts
        → AreSaid Blocks (trees.block (label_of b v) os rest) (an_entity (entity (block named label arguments) us) ts)
    some_blocks : (bs : KitPart Blocks) (rest : KitPart Regions) (us ts : Entities ℕ)
        → AreSaid Blocks bs us → AreSaid Regions rest ts
        → AreSaid Regions (trees.region bs rest) (an_entity (entity a_region us) ts)

  -- ---- values

  module _ (code : TypeHandle → ℕ) where
    -- the names of definitions are the numbers that are written
    pub names_said : (vs : List TypedValue) (xs : Definitions)
        → Pairs (HasDefinition says (Named numbering) s.types.keys) vs xs
        → Pairs (Named numbering).value (names_of (map (mean_defined code) (map defined_by vs))) (closed.names_of xs)
    names_said [] [] h = tt
    names_said [] (x ∷ xs) h = absurd h
    names_said (v ∷ vs) [] h = absurd h
    names_said (v ∷ vs) (x ∷ xs) h = (h.0.0, names_said vs xs h.1)

    -- three lists with their numbers
    three_pairs : {X : Type 0} (R : X → ℕ → Type 0) (vs us ws : List X) (xs ys zs : List ℕ) → Pairs R vs xs → Pairs R us ys
        → Pairs R ws zs → Pairs R (vs ++ (us ++ ws)) ((xs ++ ys) ++ zs)
    three_pairs R vs us ws xs ys zs a b c =
        subst (Pairs R (vs ++ (us ++ ws))) (sym (three_lists xs ys zs))
        (pairs_parts R vs (us ++ ws) xs (ys ++ zs) a (pairs_parts R us ws ys zs b c))

    -- the values of a part have the numbers that are written
    pub values_said : (k : Sort) (x : KitPart k) (ts : Entities ℕ) → AreSaid k x ts
        → Pairs (Named numbering).value (values_in (mean (meanings code) x)) (all_numbers ts)
    values_said k x ts no_operations = tt
    values_said k x ts no_blocks = tt
    values_said k x ts no_regions = tt
    values_said k x ts (an_operation p v rs rest kind results used successors pieces us more head inside after) =
        three_pairs (Named numbering).value (names_of (map (mean_defined code) (map defined_by v.results)) ++ v.operands)
        (values_in (mean (meanings code) rs)) (values_in (mean (meanings code) rest))
        (closed.names_of results ++ used) (all_numbers us) (all_numbers more)
        (pairs_parts (Named numbering).value (names_of (map (mean_defined code) (map defined_by v.results))) v.operands
        (closed.names_of results) used (names_said v.results results head.defines) head.mentions)
        (values_said Regions rs us inside) (values_said Operations rest more after)
    values_said k x ts (a_block b v os rest named label arguments us more name defines inside after) =
        three_pairs (Named numbering).value (names_of (map (mean_defined code) (map defined_by v.arguments)))
        (values_in (mean (meanings code) os)) (values_in (mean (meanings code) rest))
        (closed.names_of arguments) (all_numbers us) (all_numbers more)
        (names_said v.arguments arguments defines)
        (values_said Operations os us inside) (values_said Blocks rest more after)
    values_said k x ts (some_blocks bs rest us more inside after) =
        pairs_parts (Named numbering).value (values_in (mean (meanings code) bs)) (values_in (mean (meanings code) rest))
        (all_numbers us) (all_numbers more) (values_said Blocks bs us inside) (values_said Regions rest more after)

    -- so have the blocks that are named in a part
    pub named_said : (k : Sort) (x : KitPart k) (ts : Entities ℕ) → AreSaid k x ts
        → Pairs (Named numbering).block (blocks_in (mean (meanings code) x)) (all_blocks_named ts)
    named_said k x ts no_operations = tt
    named_said k x ts no_blocks = tt
    named_said k x ts no_regions = tt
    named_said k x ts (an_operation p v rs rest kind results used successors pieces us more head inside after) =
        three_pairs (Named numbering).block v.successors (blocks_in (mean (meanings code) rs))
        (blocks_in (mean (meanings code) rest)) successors (all_blocks_named us) (all_blocks_named more) head.goes_on
        (named_said Regions rs us inside) (named_said Operations rest more after)
    named_said k x ts (a_block b v os rest named label arguments us more name defines inside after) =
        three_pairs (Named numbering).block (b ∷ []) (blocks_in (mean (meanings code) os))
        (blocks_in (mean (meanings code) rest)) (named ∷ []) (all_blocks_named us) (all_blocks_named more) (name, tt)
        (named_said Operations os us inside) (named_said Blocks rest more after)
    named_said k x ts (some_blocks bs rest us more inside after) =
        pairs_parts (Named numbering).block (blocks_in (mean (meanings code) bs)) (blocks_in (mean (meanings code) rest))
        (all_blocks_named us) (all_blocks_named more) (named_said Blocks bs us inside) (named_said Regions rest more after)

  -- ---- what stands for texts

  module _ (own : HaveOwnNumbers numbering) where
    mutual
      -- operations that have these trees are what these say
      operations_said : (ps : List (Ptr Operation)) (x : KitPart Operations) (ts : Entities ℕ)
          → AreTree s.program Operations ps x → HaveTrees says (Named numbering) HasOwnLabel (seen s) ps ts
          → AreSaid Operations x ts
      operations_said [] x no_entity stands.no_operations h = no_operations
      operations_said [] x (an_entity t ts) stands.no_operations h = absurd h
      operations_said (p ∷ ps) x no_entity (first_operation _ _ v rs rest there inner after) h = absurd h
      operations_said (p ∷ ps) x (an_entity (entity (operation kind results used successors pieces) us) ts)
          (first_operation _ _ v rs rest there inner after) h =
          let hs = h.0 in
          let is : seen_operation v ≡ hs.0 = same_operation s numbering own (λ _. 0) p v hs.0 there hs.1 in
          an_operation p v rs rest kind results used successors pieces us ts
          (subst (λ o. HasHead says (Named numbering) s.types.keys o kind results used successors pieces) (sym is) hs.2)
          (regions_said v.regions rs us inner
          (subst (λ (o : SeenOperation KitOp KitAttr). HaveRegionTrees says (Named numbering) HasOwnLabel
          (seen s) o.regions us) (sym is) hs.3))
          (operations_said ps rest ts after h.1)
      operations_said (p ∷ ps) x (an_entity (entity a_region us) ts)
          (first_operation _ _ v rs rest there inner after) h = absurd h.0
      operations_said (p ∷ ps) x (an_entity (entity (block named label arguments) us) ts)
          (first_operation _ _ v rs rest there inner after) h = absurd h.0

      -- blocks that have these trees are what these say
      blocks_said : (ps : List (Ptr BasicBlock)) (x : KitPart Blocks) (ts : Entities ℕ)
          → AreTree s.program Blocks ps x → HaveBlockTrees says (Named numbering) HasOwnLabel (seen s) ps ts
          → AreSaid Blocks x ts
      blocks_said [] x no_entity stands.no_blocks h = no_blocks
      blocks_said [] x (an_entity t ts) stands.no_blocks h = absurd h
      blocks_said (p ∷ ps) x no_entity (first_block _ _ v os rest there inner after) h = absurd h
      blocks_said (p ∷ ps) x (an_entity (entity (block named label arguments) us) ts)
          (first_block _ _ v os rest there inner after) h =
          let hs = h.0 in
          let is : seen_block v ≡ hs.0 = same_label s numbering own (λ _. 0) p v hs.0 there hs.1 in
          a_block p v os rest named label arguments us ts hs.3
          (subst (λ (o : SeenBlock). Pairs (HasDefinition says (Named numbering) s.types.keys) o.arguments arguments)
          (sym is) hs.4)
          (operations_said v.operations os us inner
          (subst (λ (o : SeenBlock). HaveTrees says (Named numbering) HasOwnLabel (seen s) o.operations us)
          (sym is) hs.5))
          (blocks_said ps rest ts after h.1)
      blocks_said (p ∷ ps) x (an_entity (entity a_region us) ts)
          (first_block _ _ v os rest there inner after) h = absurd h.0
      blocks_said (p ∷ ps) x (an_entity (entity (operation kind results used successors pieces) us) ts)
          (first_block _ _ v os rest there inner after) h = absurd h.0

      -- regions that have these trees are what these say
      pub regions_said : (ps : List (Ptr Region)) (x : KitPart Regions) (ts : Entities ℕ)
          → AreTree s.program Regions ps x → HaveRegionTrees says (Named numbering) HasOwnLabel (seen s) ps ts
          → AreSaid Regions x ts
      regions_said [] x no_entity stands.no_regions h = no_regions
      regions_said [] x (an_entity t ts) stands.no_regions h = absurd h
      regions_said (p ∷ ps) x no_entity (first_region _ _ v bs rest there inner after) h = absurd h
      regions_said (p ∷ ps) x (an_entity (entity a_region us) ts)
          (first_region _ _ v bs rest there inner after) h =
          let hs = h.0 in
          let is = same_region s numbering own (λ _. 0) p v hs.0 there hs.1 in
          some_blocks bs rest us ts
          (blocks_said v.blocks bs us inner
          (subst (λ ms. HaveBlockTrees says (Named numbering) HasOwnLabel (seen s) ms us) (sym is) hs.2))
          (regions_said ps rest ts after h.1)
      regions_said (p ∷ ps) x (an_entity (entity (operation kind results used successors pieces) us) ts)
          (first_region _ _ v bs rest there inner after) h = absurd h.0
      regions_said (p ∷ ps) x (an_entity (entity (block named label arguments) us) ts)
          (first_region _ _ v bs rest there inner after) h = absurd h.0
