-- The program of a module that stands for a text is the one that the text says.
use Rattle.std.proofs.Common.{◌≡◌, ℕ, Bool, true, false, List, [], ◌∷◌, Option, Some, None, sym, ap, ◌∙◌, subst}
use Rattle.std.specs.Prelude.{nat_eq, reverse, option_and_then, if◌then◌else◌}
use Rattle.ir_print.specs.Pieces.{ValueTree, Pieces, operation, a_region, block, Entity, entity, Entities, no_entity}
use Rattle.ir_print.specs.Pieces.{an_entity}
use Rattle.ir_forest.specs.Closed.{blocks_among}
use Rattle.ir_print.specs.Shown.{Pairs}
use Rattle.ir_program.specs.Program.{OperationView}
use Rattle.ir_program.specs.declared.handles.Ptr.{Ptr}
use Rattle.ir_program.specs.declared.handles.Operation.{Operation}
use Rattle.ir_program.specs.declared.handles.Region.{Region}
use Rattle.ir_program.specs.declared.handles.BasicBlock.{BasicBlock}
use Rattle.ir_program.specs.declared.handles.Value.{Value}
use Rattle.ir_program.specs.Replacing.{same_value}
use Rattle.ir_trees.specs.Searched.{AreDistinct}
use Rattle.ir_trees.specs.Stands.{by_handle, head_of, AreTree, no_operations, no_blocks, no_regions, first_operation}
use Rattle.ir_trees.specs.Stands.{first_block, first_region, StandsFor}
use Rattle.ir_trees.specs.Trees.{Operations, Blocks, Regions, end, region}
use Rattle.ir_types.specs.Interned.{key_at}
use Rattle.kit.specs.Context.{KitContext, KitTree}
use Rattle.text_dialect.specs.Seen.{SeenOperation, SeenBlock, seen, seen_operation}
use Rattle.text_dialect.specs.Standing.{HasHead, HasTree, HaveRegionTrees, HaveBlockTrees, HaveTrees}
use Rattle.text_rereading.specs.Rereading.{Numbering, Named}
use Rattle.kit.specs.Meaning.{KitOperation, is_function, is_module}
use Rattle.kit_ops.specs.declared.attributes.KitAttr.{KitAttr}
use Rattle.kit_ops.specs.declared.kinds.KitOp.{KitOp}
use Rattle.kit.specs.Says.{says}
use Rattle.kit_behaviour.specs.Machine.{Fun, FunctionsByPath}
use Rattle.kit_behaviour.specs.Numbering.{place_fun}
use Rattle.kit_behaviour.specs.Places.{Place}
use Rattle.kit_behaviour.proofs.ControlFlow.NamedPlacing.{placed_on}
use Rattle.kit_views.specs.FlatView.{AreFlatBlocks, names_in}
use Rattle.kit_views.specs.Reading.{kit_reading}
use Rattle.kit_ruled_views.specs.Paths.{is_function_named, is_module_named, first_with, members_in, locate}
use Rattle.kit_ruled_views.specs.Programs.{HasFunctionView, IsProgramOf}
use Rattle.kit_text_programs.specs.Laws.{HaveOwnNumbers}
use Rattle.kit_text_programs.proofs.SaidPrograms.{fun_said, first_inside, members_said, regions_below, first_said}
use Rattle.kit_text_programs.proofs.SaidPrograms.{is_called, locate_said, placed_said, program_said}
use Rattle.kit_text_programs.proofs.ValueNumbers.{number_of_value, HasNumber, numbers_apart}
use Rattle.kit_text_programs.proofs.SaidHeads.{function_called, module_called}
use Rattle.kit_text_programs.proofs.SaidFunctions.{KitPart, same_operation, same_label, same_region, all_named}
use Rattle.kit_text_programs.proofs.SaidFunctions.{blocks_same, ArePlaces}
use Rattle.kit_text_programs.proofs.Unlabelled.{HasSomeLabel}

module _ (s : KitContext) (numbering : Numbering) (own : HaveOwnNumbers numbering) (numbered : List ℕ → ℕ) where
  -- the regions are those that the text says
  record AreSaidRegions (x : KitPart Regions) (us : Entities ℕ) : Type 0 where
    handles : List (Ptr Region)
    tree : AreTree s.program Regions handles x
    trees : HaveRegionTrees says (Named numbering) HasSomeLabel (seen s) handles us

  -- and so are the operations
  record AreSaidOperations (x : KitPart Operations) (us : Entities ℕ) : Type 0 where
    members : List (Ptr Operation)
    tree : AreTree s.program Operations members x
    trees : HaveTrees says (Named numbering) HasSomeLabel (seen s) members us

  -- a tree is found where the text has one, with the regions that the text says
  abbrev AreFoundAlike : Option KitTree → Option (Entities ℕ) → Type 0
  AreFoundAlike None None = Unit {0}
  AreFoundAlike (Some u) (Some us) = AreSaidRegions u.regions us
  AreFoundAlike None (Some us) = ⊥
  AreFoundAlike (Some u) None = ⊥

  -- ---- members

  no_members : AreSaidOperations end no_entity
  no_members = record { members = []; tree = no_operations; trees = tt }

  blocks_members : (bs : List (Ptr BasicBlock)) (x : KitPart Blocks) (ts : Entities ℕ) → AreTree s.program Blocks bs x
      → HaveBlockTrees says (Named numbering) HasSomeLabel (seen s) bs ts
      → AreSaidOperations (members_in (region x end)) (first_inside ts)
  blocks_members [] x no_entity no_blocks h = no_members
  blocks_members [] x (an_entity t ts) no_blocks h = absurd h
  blocks_members (b ∷ bs) x no_entity (first_block _ _ v os rest there inner after) h = absurd h
  blocks_members (b ∷ bs) x (an_entity (entity (block named label arguments) us) ts)
      (first_block _ _ v os rest there inner after) h =
      let here = h.0 in
      let is = same_label s numbering own numbered b v here.0 there here.1 in
      record {
        members = v.operations;
        tree = inner;
        trees = subst (λ (o : SeenBlock). HaveTrees says (Named numbering) HasSomeLabel (seen s) o.operations us) (sym is)
            here.5;
      }
  blocks_members (b ∷ bs) x (an_entity (entity (operation kind results used successors pieces) us) ts)
      (first_block _ _ v os rest there inner after) h = absurd h.0
  blocks_members (b ∷ bs) x (an_entity (entity a_region us) ts)
      (first_block _ _ v os rest there inner after) h = absurd h.0

  regions_members : (rs : List (Ptr Region)) (x : KitPart Regions) (us : Entities ℕ) → AreTree s.program Regions rs x
      → HaveRegionTrees says (Named numbering) HasSomeLabel (seen s) rs us
      → AreSaidOperations (members_in x) (members_said us)
  regions_members [] x no_entity no_regions h = no_members
  regions_members [] x (an_entity t ts) no_regions h = absurd h
  regions_members (r ∷ rs) x no_entity (first_region _ _ v bs rest there inner after) h = absurd h
  regions_members (r ∷ rs) x (an_entity (entity a_region us) ts) (first_region _ _ v bs rest there inner after) h =
      let here = h.0 in
      let is = same_region s numbering own numbered r v here.0 there here.1 in
      blocks_members v.blocks bs us inner
      (subst (λ ks. HaveBlockTrees says (Named numbering) HasSomeLabel (seen s) ks us) (sym is) here.2)
  regions_members (r ∷ rs) x (an_entity (entity (operation kind results used successors pieces) us) ts)
      (first_region _ _ v bs rest there inner after) h = absurd h.0
  regions_members (r ∷ rs) x (an_entity (entity (block named label arguments) us) ts)
      (first_region _ _ v bs rest there inner after) h = absurd h.0

  members_alike : (x : KitPart Regions) (us : Entities ℕ) → AreSaidRegions x us
      → AreSaidOperations (members_in x) (members_said us)
  members_alike x us h = regions_members h.handles x us h.tree h.trees

  -- ---- paths

  chosen_alike : (b c : Bool) (u : KitTree) (us : Entities ℕ) (o : Option KitTree) (x : Option (Entities ℕ)) → b ≡ c
      → AreSaidRegions u.regions us → AreFoundAlike o x
      → AreFoundAlike (if b then Some u else o) (if c then Some us else x)
  chosen_alike true true u us o x e here rest = here
  chosen_alike false false u us o x e here rest = rest
  chosen_alike true false u us o x e here rest = cc
  chosen_alike false true u us o x e here rest = cc

  -- a test of operations is one of what they say
  abbrev AreTestsAlike : (KitOperation → Bool) → (ℕ → Pieces → Bool) → Type 0
  AreTestsAlike test said = (v : OperationView KitOperation) (kind : ℕ) (results : List (ℕ × ValueTree)) (used successors : List ℕ)
      (pieces : Pieces) → HasHead says (Named numbering) s.types.keys (seen_operation v) kind results used successors pieces
      → test v.payload ≡ said kind pieces

  module _ (test : KitOperation → Bool) (said : ℕ → Pieces → Bool) (alike : AreTestsAlike test said) where
    first_alike : (ps : List (Ptr Operation)) (x : KitPart Operations) (ts : Entities ℕ)
        → AreTree s.program Operations ps x → HaveTrees says (Named numbering) HasSomeLabel (seen s) ps ts
        → AreFoundAlike (first_with test x) (first_said said ts)
    first_alike [] x no_entity no_operations h = tt
    first_alike [] x (an_entity t ts) no_operations h = absurd h
    first_alike (p ∷ ps) x no_entity (first_operation _ _ v rs rest there inner after) h = absurd h
    first_alike (p ∷ ps) x (an_entity (entity (operation kind results used successors pieces) us) ts)
        (first_operation _ _ v rs rest there inner after) h =
        let here = h.0 in
        let is : seen_operation v ≡ here.0 = same_operation s numbering own numbered p v here.0 there here.1 in
        let head = subst (λ o. HasHead says (Named numbering) s.types.keys o kind results used successors pieces) (sym is) here.2 in
        let trees =
        subst (λ (o : SeenOperation KitOp KitAttr). HaveRegionTrees says (Named numbering) HasSomeLabel (seen s)
        o.regions us) (sym is) here.3 in
        chosen_alike (test v.payload) (said kind pieces) (record { head = head_of p v; regions = rs }) us
        (first_with test rest) (first_said said ts) (alike v kind results used successors pieces head)
        (record { handles = v.regions; tree = inner; trees = trees }) (first_alike ps rest ts after h.1)
    first_alike (p ∷ ps) x (an_entity (entity a_region us) ts)
        (first_operation _ _ v rs rest there inner after) h = absurd h.0
    first_alike (p ∷ ps) x (an_entity (entity (block named label arguments) us) ts)
        (first_operation _ _ v rs rest there inner after) h = absurd h.0

    found_alike : (x : KitPart Operations) (ts : Entities ℕ) → AreSaidOperations x ts
        → AreFoundAlike (first_with test x) (first_said said ts)
    found_alike x ts h = first_alike h.members x ts h.tree h.trees

  functions_alike : (x : ℕ) → AreTestsAlike (is_function_named numbered x) (is_called numbered is_function x)
  functions_alike x v kind results used successors pieces h =
      function_called s.types.keys numbered x v.payload.kind v.payload.notes.attributes _ _ kind h.said pieces
      h.says_it h.shown

  modules_alike : (x : ℕ) → AreTestsAlike (is_module_named numbered x) (is_called numbered is_module x)
  modules_alike x v kind results used successors pieces h =
      module_called s.types.keys numbered x v.payload.kind v.payload.notes.attributes _ _ kind h.said pieces h.says_it
      h.shown

  then_alike : (f : KitTree → Option KitTree) (g : Entities ℕ → Option (Entities ℕ)) (o : Option KitTree)
      (x : Option (Entities ℕ))
      → ((u : KitTree) (us : Entities ℕ) → AreSaidRegions u.regions us → AreFoundAlike (f u) (g us))
      → AreFoundAlike o x → AreFoundAlike (option_and_then f o) (option_and_then g x)
  then_alike f g None None each h = tt
  then_alike f g (Some u) (Some us) each h = each u us h
  then_alike f g None (Some us) each h = absurd h
  then_alike f g (Some u) None each h = absurd h

  located_alike : (path : List ℕ) (t : KitTree) (us : Entities ℕ) → AreSaidRegions t.regions us
      → AreFoundAlike (locate numbered path t) (locate_said numbered path us)
  located_alike [] t us h = tt
  located_alike (x ∷ []) t us h =
      found_alike (is_function_named numbered x) (is_called numbered is_function x) (functions_alike x)
      (members_in t.regions) (members_said us) (members_alike t.regions us h)
  located_alike (x ∷ y ∷ path) t us h =
      then_alike (locate numbered (y ∷ path)) (locate_said numbered (y ∷ path))
      (first_with (is_module_named numbered x) (members_in t.regions))
      (first_said (is_called numbered is_module x) (members_said us))
      (λ u vs k. located_alike (y ∷ path) u vs k)
      (found_alike (is_module_named numbered x) (is_called numbered is_module x) (modules_alike x)
      (members_in t.regions) (members_said us) (members_alike t.regions us h))

  -- ---- functions

  blocks_one : (blocks bs : KitPart Blocks) (rest : KitPart Regions) → region bs rest ≡ region blocks end → bs ≡ blocks
  blocks_one blocks bs rest e = cc

  no_region : (blocks : KitPart Blocks) → ◌≡◌ {A = KitPart Regions} end (region blocks end) → ⊥
  no_region blocks e = cc

  -- the blocks of a region have the numbers that are written
  names_said : (bs : List (Ptr BasicBlock)) (x : KitPart Blocks) (ts : Entities ℕ) → AreTree s.program Blocks bs x
      → HaveBlockTrees says (Named numbering) HasSomeLabel (seen s) bs ts
      → Pairs (Named numbering).block (names_in x) (blocks_among ts)
  names_said [] x no_entity no_blocks h = tt
  names_said [] x (an_entity t ts) no_blocks h = absurd h
  names_said (b ∷ bs) x no_entity (first_block _ _ v os rest there inner after) h = absurd h
  names_said (b ∷ bs) x (an_entity (entity (block named label arguments) us) ts)
      (first_block _ _ v os rest there inner after) h = (h.0.3, names_said bs rest ts after h.1)
  names_said (b ∷ bs) x (an_entity (entity (operation kind results used successors pieces) us) ts)
      (first_block _ _ v os rest there inner after) h = absurd h.0
  names_said (b ∷ bs) x (an_entity (entity a_region us) ts) (first_block _ _ v os rest there inner after) h = absurd h.0

  -- the flat view of a function, its values named by their places
  module _ (blocks : KitPart Blocks) (f : Fun Value)
      (are : AreFlatBlocks (kit_reading (key_at s.types) numbered) (names_in blocks) blocks f)
      (apart : AreDistinct (names_in blocks)) where
    function_placed : (rs : List (Ptr Region)) (x : KitPart Regions) (us : Entities ℕ) → AreTree s.program Regions rs x
        → HaveRegionTrees says (Named numbering) HasSomeLabel (seen s) rs us → x ≡ region blocks end
        → place_fun same_value (Some f) ≡ place_fun nat_eq (Some (fun_said numbered (first_inside us)))
    function_placed [] x us no_regions h e = absurd (no_region blocks e)
    function_placed (r ∷ rs) x no_entity (first_region _ _ v bs rest there inner after) h e = absurd h
    function_placed (r ∷ rs) x (an_entity (entity a_region us) ts) (first_region _ _ v bs rest there inner after) h e =
        let here = h.0 in
        let is = same_region s numbering own numbered r v here.0 there here.1 in
        let trees = subst (λ ks. HaveBlockTrees says (Named numbering) HasSomeLabel (seen s) ks us) (sym is) here.2 in
        let tree = subst (AreTree s.program Blocks v.blocks) (blocks_one blocks bs rest e) inner in
        let places : ArePlaces s numbering own numbered (names_in blocks) (blocks_among us) = record {
          numbers = names_said v.blocks blocks us tree trees;
          apart = apart;
        } in
        let same = blocks_same s numbering own numbered (names_in blocks) (blocks_among us) places v.blocks blocks us f tree
        trees are in
        sym (placed_on same_value nat_eq (number_of_value numbering own) (HasNumber numbering own)
        (λ a b n m. numbers_apart numbering own a b n m) (Some f)
        (all_named s numbering own numbered (names_in blocks) (blocks_among us) places f same.1))
        ∙ ap (λ (g : Fun ℕ). place_fun nat_eq (Some g)) same.0
    function_placed (r ∷ rs) x (an_entity (entity (operation kind results used successors pieces) us) ts)
        (first_region _ _ v bs rest there inner after) h e = absurd h.0
    function_placed (r ∷ rs) x (an_entity (entity (block named label arguments) us) ts)
        (first_region _ _ v bs rest there inner after) h e = absurd h.0

  function_said : (o : Option KitTree) (x : Option (Entities ℕ)) (q : Option (Fun Place)) → AreFoundAlike o x
      → HasFunctionView {N = by_handle} same_value (key_at s.types) numbered o q → q ≡ placed_said numbered x
  function_said None None q h is = is
  function_said None (Some us) q h is = absurd h
  function_said (Some u) None q h is = absurd h
  function_said (Some u) (Some us) q h is =
      let view = is.1.view in
      is.2 ∙ function_placed view.blocks is.0 view.are is.1.blocks h.handles u.regions us h.tree h.trees view.region

  -- ---- modules

  regions_so : (text : Entity ℕ) (root : Ptr Operation) (t : KitTree)
      → HasTree says (Named numbering) HasSomeLabel (seen s) root text → StandsFor s.program root t
      → AreSaidRegions t.regions (regions_below text)
  regions_so (entity (operation kind results used successors pieces) us) root t h stands =
      let is : seen_operation stands.view ≡ h.0 = same_operation s numbering own numbered root stands.view h.0
      stands.there h.1 in
      record {
        handles = stands.view.regions;
        tree = stands.regions;
        trees = subst
            (λ (o : SeenOperation KitOp KitAttr). HaveRegionTrees says (Named numbering) HasSomeLabel (seen s) o.regions
            us) (sym is) h.3;
      }
  regions_so (entity a_region us) root t h stands = absurd h
  regions_so (entity (block named label arguments) us) root t h stands = absurd h

  -- the program is the one that the text says
  pub said_so : (root : Ptr Operation) (text : Entity ℕ) (t : KitTree) (p : FunctionsByPath Place)
      → HasTree says (Named numbering) HasSomeLabel (seen s) root text → StandsFor s.program root t
      → IsProgramOf {N = by_handle} same_value (key_at s.types) numbered t p
      → p ≡ program_said numbered (regions_below text)
  said_so root text t p h stands is = λ i path.
      function_said (locate numbered (reverse path) t) (locate_said numbered (reverse path) (regions_below text))
      (p path)
      (located_alike (reverse path) t (regions_below text) (regions_so text root t h stands)) (is path) i
