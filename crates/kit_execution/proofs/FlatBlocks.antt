-- What the machine of contexts sees of the blocks of a function is what it sees of its flat view.
use Rattle.std.proofs.Common.{◌≡◌, ◌≢◌, ℕ, zero, suc, List, [], ◌∷◌, map, drop, length, Option, Some, None, option_map}
use Rattle.std.proofs.Common.{unwrap_or, slice_get, refl, sym, ap, ◌∙◌, subst}
use Rattle.std.proofs.lemmas.List.{drop-map}
use Rattle.ir_types.specs.Interned.{key_at}
use Rattle.ir_program.specs.Program.{TypedValue, BlockView, block_at}
use Rattle.ir_program.specs.Lists.{operations_in}
use Rattle.ir_program.specs.declared.handles.Ptr.{Ptr}
use Rattle.ir_program.specs.declared.handles.Operation.{Operation}
use Rattle.ir_program.specs.declared.handles.BasicBlock.{BasicBlock}
use Rattle.ir_program.specs.declared.handles.Value.{Value}
use Rattle.ir_trees.specs.Renames.{names_of}
use Rattle.ir_trees.specs.Searched.{Lists}
use Rattle.ir_trees.specs.Stands.{AreTree, StandsFor, defined_by, head_of}
use Rattle.ir_trees.specs.Trees.{Operations, Blocks}
use Rattle.kit.specs.Context.{KitContext, KitTree}
use Rattle.kit.specs.Meaning.{KitBlock, KitOperation}
use Rattle.kit_behaviour.specs.Machine as flat
use Rattle.kit_behaviour.specs.Rules.{AllEdgesFit}
use Rattle.kit_checks.specs.Sites.{Listed, region_list}
use Rattle.kit_execution.proofs.Bodies.{KitBlocks, body_tree}
use Rattle.kit_flat.specs.Machine as machine
use Rattle.kit_interpreter.specs.Lowering.{CanRun}
use Rattle.kit_places.specs.Numbers.{values_of}
use Rattle.kit_places.specs.Store.{body_of, op_at, block_seen, module_code}
use Rattle.kit_places.specs.Store.{function_named}
use Rattle.kit_views.specs.FlatView.{AreOps, AreFlatBlocks, FlattensTo, names_in}
use Rattle.kit_views.specs.Reading.{Reading, kit_contents, kit_reading}
use Rattle.kit_execution.proofs.FlatOperations.{op_seen}
use Rattle.kit_execution.proofs.Lockstep.{FlatOp, SeenOp, Names, seen, IsSeenAs}

defined_values : (ts : List TypedValue) → names_of (map defined_by ts) ≡ values_of ts
defined_values [] = refl
defined_values (t ∷ ts) = ap (λ l. t.value ∷ l) (defined_values ts)

-- edges that fit do so from any operation on
edges_dropped : (f : Option (flat.Fun Value)) (ops : List FlatOp) (i : ℕ) → AllEdgesFit f ops →
    AllEdgesFit f (drop i ops)
edges_dropped f ops zero h = h
edges_dropped f [] (suc i) h = h
edges_dropped f (op ∷ ops) (suc i) h = edges_dropped f ops i h.1

edges_from : (f : Option (flat.Fun Value)) (o : Option (flat.Block Value)) (i : ℕ) →
    AllEdgesFit f (flat.ops_left o 0) → AllEdgesFit f (flat.ops_left o i)
edges_from f None i h = tt
edges_from f (Some b) i h = edges_dropped f b.ops i h

-- the tree lists these blocks
names_are : (s : KitContext) (bs : List (Ptr BasicBlock)) (tree : KitBlocks) → AreTree s.program Blocks bs tree →
    names_in tree ≡ bs
names_are s _ _ AreTree.no_blocks = refl
names_are s _ _ (AreTree.first_block b bs v os rest there inside behind) =
    ap (λ l. b ∷ l) (names_are s bs rest behind)

module _ (s : KitContext) (m : Ptr Operation) (blocks : List (Ptr BasicBlock)) (named : Names) (numbered : List ℕ → ℕ)
    (agree : (text : List ℕ) → named (numbered text) ≡ function_named s.program m text) where
  abbrev reading : Reading kit_contents
  reading = kit_reading (key_at s.types) numbered

  abbrev see : FlatOp → SeenOp
  see = seen blocks named

  abbrev code : machine.Code Value (Ptr BasicBlock) (Ptr Operation)
  code = module_code s m

  ops_seen : (ps : List (Ptr Operation)) (os : Listed KitOperation KitBlock Operations) →
      AreTree s.program Operations ps os → (fs : List FlatOp) → AreOps reading blocks os fs →
      ((q : Ptr Operation) → Lists ps q → op_at s m q ≢ machine.Other) → map (op_at s m) ps ≡ map see fs
  ops_seen _ _ AreTree.no_operations [] are executes = refl
  ops_seen _ _ AreTree.no_operations (f ∷ fs) are executes = absurd are
  ops_seen _ _ (AreTree.first_operation p ps v rs rest there inside behind) [] are executes = absurd are
  ops_seen _ _ (AreTree.first_operation p ps v rs rest there inside behind) (f ∷ fs) are executes =
      let tree : KitTree = record { head = head_of p v; regions = rs } in
      let first : op_at s m p ≡ see f =
      op_seen s m p tree (record { view = v; there = there; head = refl; regions = inside }) blocks named numbered agree
      (executes p (0, refl)) f are.1 in
      let more = ops_seen ps rest behind fs are.2 (λ q l. executes q (suc l.0, l.1)) in
      λ i. first i ∷ more i

  -- a block of the context is seen as this flat one
  record IsBlockSeenAs (b : Ptr BasicBlock) (o : Option (flat.Block Value)) : Type 0 where
    arguments : machine.arguments_of (option_map (block_seen s m) (block_at s.program b)) ≡ flat.arguments_of o
    operations : (i : ℕ) → machine.operations_from (option_map (block_seen s m) (block_at s.program b)) i
        ≡ map see (flat.ops_left o i)

  blocks_seen : (bs : List (Ptr BasicBlock)) (tree : KitBlocks) → AreTree s.program Blocks bs tree →
      (ks : flat.Fun Value) → AreFlatBlocks reading blocks tree ks →
      ((b : Ptr BasicBlock) (q : Ptr Operation) → Lists bs b → Lists (operations_in s.program b) q →
      op_at s m q ≢ machine.Other) → (j : ℕ) (b : Ptr BasicBlock) → slice_get bs j ≡ Some b →
      IsBlockSeenAs b (slice_get ks j)
  blocks_seen _ _ AreTree.no_blocks ks are executes j b at = absurd (cc at)
  blocks_seen _ _ (AreTree.first_block c bs v os rest there inside behind) [] are executes j b at = absurd are
  blocks_seen _ _ (AreTree.first_block c bs v os rest there inside behind) (k ∷ ks) are executes zero b at =
      let same : c ≡ b = cc at in
      let listed : operations_in s.program c ≡ v.operations =
      ap (λ o. unwrap_or (option_map (λ (w : BlockView KitBlock). w.operations) o) []) there in
      let all : map (op_at s m) v.operations ≡ map see k.ops = ops_seen v.operations os inside k.ops are.1
      (λ q l. executes c q (0, refl) (l.0, ap (λ (ps : List (Ptr Operation)). slice_get ps l.0) listed ∙ l.1)) in
      subst (λ d. IsBlockSeenAs d (Some k)) same
      (record {
        arguments = ap (λ o. machine.arguments_of (option_map (block_seen s m) o)) there
            ∙ sym (defined_values v.arguments) ∙ are.0;
        operations = λ i. ap (λ o. machine.operations_from (option_map (block_seen s m) o) i) there
            ∙ ap (drop i) all ∙ drop-map see i k.ops;
      })
  blocks_seen _ _ (AreTree.first_block c bs v os rest there inside behind) (k ∷ ks) are executes (suc j) b at =
      blocks_seen bs rest behind ks are.2 (λ d q l. executes d q (suc l.0, l.1)) j b at

  as_many : (bs : List (Ptr BasicBlock)) (tree : KitBlocks) → AreTree s.program Blocks bs tree →
      (ks : flat.Fun Value) → AreFlatBlocks reading blocks tree ks → length ks ≡ length bs
  as_many _ _ AreTree.no_blocks [] are = refl
  as_many _ _ AreTree.no_blocks (k ∷ ks) are = absurd are
  as_many _ _ (AreTree.first_block c bs v os rest there inside behind) [] are = absurd are
  as_many _ _ (AreTree.first_block c bs v os rest there inside behind) (k ∷ ks) are =
      ap suc (as_many bs rest behind ks are.2)

module _ (s : KitContext) (m : Ptr Operation) (named : Names) (numbered : List ℕ → ℕ)
    (agree : (text : List ℕ) → named (numbered text) ≡ function_named s.program m text) (f : Ptr Operation)
    (u : KitTree) (stands : StandsFor s.program f u) (k : flat.Fun Value)
    (view : FlattensTo (kit_reading (key_at s.types) numbered) u k) (runs : CanRun s m f) where
  tree : AreTree s.program Blocks (body_of s.program f) view.view.blocks
  tree = body_tree s.program f u view.view.blocks stands (ap (λ rs. slice_get (region_list rs) 0) view.view.region)

  are : AreFlatBlocks (kit_reading (key_at s.types) numbered) (body_of s.program f) view.view.blocks k
  are = subst (λ bs. AreFlatBlocks (kit_reading (key_at s.types) numbered) bs view.view.blocks k)
      (names_are s (body_of s.program f) view.view.blocks tree) view.view.are

  at_block : (j : ℕ) (b : Ptr BasicBlock) → slice_get (body_of s.program f) j ≡ Some b →
      IsBlockSeenAs s m (body_of s.program f) named numbered agree b (slice_get k j)
  at_block = blocks_seen s m (body_of s.program f) named numbered agree (body_of s.program f) view.view.blocks tree k
      are runs.executes

  -- a function that can run is seen as its flat view
  pub function_seen : IsSeenAs s m named f (Some k)
  function_seen = record {
    entry = runs.entry;
    count = as_many s m (body_of s.program f) named numbered agree (body_of s.program f) view.view.blocks tree k are;
    arguments = λ j b at. (at_block j b at).arguments;
    operations = λ j i b at. (at_block j b at).operations i;
    edges = λ j i. edges_from (Some k) (slice_get k j) i (view.edges j);
  }
