-- What carrying decisions out makes of trees.
use Rattle.std.proofs.Common.{◌≡◌, inl, inr, List, [], ◌∷◌, map, Some, option_map, unwrap_or, slice_get, refl, sym, ap, ◌∙◌, subst}
use Rattle.ir_base.specs.declared.types.TypeHandle.{TypeHandle}
use Rattle.ir_program.specs.Lists.{StandsInside, in_block, in_region, in_operation}
use Rattle.ir_program.specs.Program.{Program, OperationView, BlockView, RegionView, operation_at, block_at, region_at}
use Rattle.ir_program.specs.declared.handles.IRNode.TheVariants.{Operation as OperationNode, Region as RegionNode, BasicBlock as BlockNode}
use Rattle.ir_program.specs.declared.handles.Ptr.{Ptr}
use Rattle.ir_program.specs.declared.handles.Operation.{Operation}
use Rattle.ir_program.specs.declared.handles.BasicBlock.{BasicBlock}
use Rattle.ir_program.specs.declared.handles.Region.{Region}
use Rattle.ir_program.specs.declared.handles.Value.{Value}
use Rattle.ir_trees.specs.Renames.{Maps, rename_defined, rename_head, rename_label, rename}
use Rattle.ir_trees.specs.Stands.{by_handle, in_program, Handles, head_of, label_of, AreTree, no_operations, no_blocks, no_regions, first_operation, first_block, first_region}
use Rattle.ir_trees.specs.Trees.{Defined, Sort, Operations, Blocks, Regions, Tree, operation, block}
use Rattle.ir_trees.proofs.Members.{Has, has_at}
use Rattle.opt_trees.specs.Dialect.{Dialect}
use Rattle.opt_trees.specs.Simplify.{decide, decide_head}
use Rattle.opt_inside.specs.Occurring.{IsBelowRoot}
use Rattle.opt_inside.proofs.Around.{HasLists, not_root}
use Rattle.opt_decide.specs.Planned.{known_alone}

module _ {O B A : Type 0} (d : Dialect (in_program O B) A) (old new : Program O B) (lists : HasLists old) (op : Ptr Operation) (names : Ptr Operation → Ptr Operation)
    -- what becomes of each operation below the root
    (turned : (p : Ptr Operation) (v : OperationView O) (rs : Tree by_handle (in_program O B) Regions) → IsBelowRoot old op p → operation_at old p ≡ Some v → AreTree old Regions v.regions rs
    → (u : OperationView O) × (operation_at new (names p) ≡ Some u)
    × (head_of {B = B} (names p) u ≡ rename_head (record { operation = names; block = λ b. b; value = λ x. x }) (decide_head d (known_alone d old) (head_of {B = B} p v) rs))
    × (u.regions ≡ v.regions))
    (blocks : (b : Ptr BasicBlock) → block_at new b ≡ option_map (λ (l : BlockView B). record l { operations = map names l.operations }) (block_at old b))
    (regions : (r : Ptr Region) → region_at new r ≡ region_at old r) where
  abbrev pub maps : Maps by_handle by_handle
  maps = record { operation = names; block = λ b. b; value = λ x. x }

  -- these handles stand below the root
  abbrev pub AllBelow : (s : Sort) → Handles s → Type 0
  AllBelow Operations ps = (p : Ptr Operation) → Has p ps → IsBelowRoot old op p
  AllBelow Blocks bs = (b : Ptr BasicBlock) → Has b bs → StandsInside old (OperationNode op) (BlockNode b)
  AllBelow Regions rs = (r : Ptr Region) → Has r rs → StandsInside old (OperationNode op) (RegionNode r)

  abbrev pub handles_now : (s : Sort) → Handles s → Handles s
  handles_now Operations ps = map names ps
  handles_now Blocks bs = bs
  handles_now Regions rs = rs

  pub regions_below : (p : Ptr Operation) (v : OperationView O) → operation_at old p ≡ Some v → StandsInside old (OperationNode op) (OperationNode p) → AllBelow Regions v.regions
  regions_below p v there i r has =
      let k = has_at v.regions r has in
      let s = lists.regions p k.0 r (ap (λ o. slice_get (unwrap_or (option_map (λ (x : OperationView O). x.regions) o) []) k.0) there ∙ k.1) in
      in_operation r p s i

  blocks_below : (r : Ptr Region) (v : RegionView) → region_at old r ≡ Some v → StandsInside old (OperationNode op) (RegionNode r) → AllBelow Blocks v.blocks
  blocks_below r v there i b has =
      let k = has_at v.blocks b has in
      let s = lists.blocks r k.0 b (ap (λ o. slice_get (unwrap_or (option_map (λ (x : RegionView). x.blocks) o) []) k.0) there ∙ k.1) in
      in_region b r s i

  operations_below : (b : Ptr BasicBlock) (v : BlockView B) → block_at old b ≡ Some v → StandsInside old (OperationNode op) (BlockNode b) → AllBelow Operations v.operations
  operations_below b v there i p has =
      let k = has_at v.operations p has in
      let s = lists.operations b k.0 p (ap (λ o. slice_get (unwrap_or (option_map (λ (x : BlockView B). x.operations) o) []) k.0) there ∙ k.1) in
      record { inside = in_block p b s i; other = not_root old lists op p b s i }

  same_defined : (ds : List (Defined Value TypeHandle)) → map (rename_defined (λ (x : Value). x)) ds ≡ ds
  same_defined [] = refl
  same_defined (x ∷ ds) = ap (λ ys. x ∷ ys) (same_defined ds)

  pub tree_now : (s : Sort) (hs : Handles s) (t : Tree by_handle (in_program O B) s) → AreTree old s hs t → AllBelow s hs → AreTree new s (handles_now s hs) (rename maps (decide d (known_alone d old) t))
  tree_now _ _ _ no_operations below = no_operations
  tree_now _ _ _ no_blocks below = no_blocks
  tree_now _ _ _ no_regions below = no_regions
  tree_now _ _ _ (first_operation p ps v rs rest there inner later) below =
      let here = below p (inl refl) in
      let u = turned p v rs here there inner in
      let within = tree_now Regions v.regions rs inner (regions_below p v there here.inside) in
      let behind = tree_now Operations ps rest later (λ q h. below q (inr h)) in
      subst (λ h. AreTree new Operations (map names (p ∷ ps)) (operation h (rename maps (decide d (known_alone d old) rs)) (rename maps (decide d (known_alone d old) rest)))) u.2
      (first_operation (names p) (map names ps) u.0 (rename maps (decide d (known_alone d old) rs)) (rename maps (decide d (known_alone d old) rest)) u.1
      (subst (λ hs. AreTree new Regions hs (rename maps (decide d (known_alone d old) rs))) (sym u.3) within) behind)
  tree_now _ _ _ (first_block b bs v ops rest there inner later) below =
      let here = below b (inl refl) in
      let within = tree_now Operations v.operations ops inner (operations_below b v there here) in
      let behind = tree_now Blocks bs rest later (λ q h. below q (inr h)) in
      let label : label_of {O = O} b (record v { operations = map names v.operations }) ≡ rename_label maps (label_of {O = O} b v) = (let e = same_defined (label_of {O = O} b v).arguments in λ i. record (label_of {O = O} b v) { arguments = sym e i }) in
      subst (λ l. AreTree new Blocks (b ∷ bs) (block l (rename maps (decide d (known_alone d old) ops)) (rename maps (decide d (known_alone d old) rest)))) label
      (first_block b bs (record v { operations = map names v.operations }) (rename maps (decide d (known_alone d old) ops)) (rename maps (decide d (known_alone d old) rest))
      (blocks b ∙ ap (option_map (λ (l : BlockView B). record l { operations = map names l.operations })) there) within behind)
  tree_now _ _ _ (first_region r rs v bs rest there inner later) below =
      let here = below r (inl refl) in
      let within = tree_now Blocks v.blocks bs inner (blocks_below r v there here) in
      let behind = tree_now Regions rs rest later (λ q h. below q (inr h)) in
      first_region r rs v (rename maps (decide d (known_alone d old) bs)) (rename maps (decide d (known_alone d old) rest)) (regions r ∙ there) within behind
