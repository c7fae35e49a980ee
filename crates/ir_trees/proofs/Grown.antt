-- What is inside an entity, listed in order, makes a tree.
use Rattle.std.proofs.Common.{◌≡◌, List, [], ◌∷◌, ◌++◌, map, Option, Some, None, IsSome, slice_get, ℕ, zero, suc, ap, ◌∙◌, refl, subst, option_map, unwrap_or}
use Rattle.ir_program.specs.Program.{Program, OperationView, BlockView, RegionView, operation_at, block_at, region_at}
use Rattle.ir_program.specs.Lists.{IsLiveNode, regions_in}
use Rattle.ir_program.specs.Preorder.{nodes_in, IsPreorder, nothing, more}
use Rattle.ir_program.specs.declared.handles.IRNode.{IRNode}
use Rattle.ir_program.specs.declared.handles.IRNode.TheVariants.{Operation as OperationNode, Region as RegionNode, BasicBlock as BlockNode}
use Rattle.ir_program.specs.declared.handles.Ptr.{Ptr}
use Rattle.ir_program.specs.declared.handles.Operation.{Operation}
use Rattle.ir_trees.specs.Trees.{Sort, Operations, Blocks, Regions, Tree, end, operation, block, region, Root}
use Rattle.ir_trees.specs.Stands.{by_handle, in_program, Handles, head_of, label_of, AreTree, no_operations, no_blocks, no_regions, first_operation, first_block, first_region, StandsFor}

-- handles as entities
abbrev pub nodes : (s : Sort) → Handles s → List IRNode
nodes Operations hs = map OperationNode hs
nodes Blocks hs = map BlockNode hs
nodes Regions hs = map RegionNode hs

-- something that is there is something
some_of : {X : Type 0} (o : Option X) → IsSome o → (x : X) × (o ≡ Some x)
some_of (Some x) h = (x, refl)
some_of None h = cc

module _ {O B : Type 0} (c : Program O B) where
  -- each of the list is there
  abbrev AllLive : List IRNode → Type 0
  AllLive [] = Unit {0}
  AllLive (e ∷ es) = IsLiveNode c e × AllLive es

  live_each : (es : List IRNode) → ((k : ℕ) (e : IRNode) → slice_get es k ≡ Some e → IsLiveNode c e) → AllLive es
  live_each [] h = tt
  live_each (e ∷ es) h = (h zero e refl, live_each es (λ k x g. h (suc k) x g))

  live_front : (xs ys : List IRNode) → AllLive (xs ++ ys) → AllLive xs
  live_front [] ys h = tt
  live_front (x ∷ xs) ys h = (h.0, live_front xs ys h.1)

  live_back : (xs ys : List IRNode) → AllLive (xs ++ ys) → AllLive ys
  live_back [] ys h = h
  live_back (x ∷ xs) ys h = live_back xs ys h.1

  regions_are : (p : Ptr Operation) (v : OperationView O) → operation_at c p ≡ Some v → regions_in c p ≡ v.regions
  regions_are p v h = ap (λ o. unwrap_or (option_map (λ (x : OperationView O). x.regions) o) []) h

  grown : (s : Sort) (hs : Handles s) (es ns : List IRNode) → IsPreorder c es ns → es ≡ nodes s hs → AllLive ns → (t : Tree by_handle (in_program O B) s) × AreTree c s hs t
  grown Operations [] _ _ nothing same live = (end, no_operations)
  grown Blocks [] _ _ nothing same live = (end, no_blocks)
  grown Regions [] _ _ nothing same live = (end, no_regions)
  grown Operations (p ∷ ps) _ _ nothing same live = cc
  grown Blocks (p ∷ ps) _ _ nothing same live = cc
  grown Regions (p ∷ ps) _ _ nothing same live = cc
  grown Operations [] _ _ (more e es inner rest d ds) same live = cc
  grown Blocks [] _ _ (more e es inner rest d ds) same live = cc
  grown Regions [] _ _ (more e es inner rest d ds) same live = cc
  grown Operations (p ∷ ps) _ _ (more e es inner rest d ds) same live =
      let first : e ≡ OperationNode p = cc in
      let left : es ≡ map OperationNode ps = cc in
      let v = some_of (operation_at c p) (subst (IsLiveNode c) first live.0) in
      let in_it : nodes_in c e ≡ map RegionNode v.0.regions = ap (nodes_in c) first ∙ ap (map RegionNode) (regions_are p v.0 v.1) in
      let below = grown Regions v.0.regions (nodes_in c e) inner d in_it (live_front inner rest live.1) in
      let behind = grown Operations ps es rest ds left (live_back inner rest live.1) in
      (operation (head_of p v.0) below.0 behind.0, first_operation p ps v.0 below.0 behind.0 v.1 below.1 behind.1)
  grown Blocks (b ∷ bs) _ _ (more e es inner rest d ds) same live =
      let first : e ≡ BlockNode b = cc in
      let left : es ≡ map BlockNode bs = cc in
      let v = some_of (block_at c b) (subst (IsLiveNode c) first live.0) in
      let in_it : nodes_in c e ≡ map OperationNode v.0.operations = ap (nodes_in c) first ∙ ap (λ o. map OperationNode (unwrap_or (option_map (λ (x : BlockView B). x.operations) o) [])) v.1 in
      let below = grown Operations v.0.operations (nodes_in c e) inner d in_it (live_front inner rest live.1) in
      let behind = grown Blocks bs es rest ds left (live_back inner rest live.1) in
      (block (label_of b v.0) below.0 behind.0, first_block b bs v.0 below.0 behind.0 v.1 below.1 behind.1)
  grown Regions (r ∷ rs) _ _ (more e es inner rest d ds) same live =
      let first : e ≡ RegionNode r = cc in
      let left : es ≡ map RegionNode rs = cc in
      let v = some_of (region_at c r) (subst (IsLiveNode c) first live.0) in
      let in_it : nodes_in c e ≡ map BlockNode v.0.blocks = ap (nodes_in c) first ∙ ap (λ o. map BlockNode (unwrap_or (option_map (λ (x : RegionView). x.blocks) o) [])) v.1 in
      let below = grown Blocks v.0.blocks (nodes_in c e) inner d in_it (live_front inner rest live.1) in
      let behind = grown Regions rs es rest ds left (live_back inner rest live.1) in
      (region below.0 behind.0, first_region r rs v.0 below.0 behind.0 v.1 below.1 behind.1)

  pub grown_tree : (p : Ptr Operation) → IsSome (operation_at c p) → (ns : List IRNode) → IsPreorder c (OperationNode p ∷ []) ns → ((k : ℕ) (e : IRNode) → slice_get ns k ≡ Some e → IsLiveNode c e)
      → (t : Root by_handle (in_program O B)) × StandsFor c p t
  grown_tree p there _ (more e es inner rest d ds) live =
      let v = some_of (operation_at c p) there in
      let all = live_each (e ∷ (inner ++ rest)) live in
      let in_it : nodes_in c (OperationNode p) ≡ map RegionNode v.0.regions = ap (map RegionNode) (regions_are p v.0 v.1) in
      let below = grown Regions v.0.regions (nodes_in c (OperationNode p)) inner d in_it (live_front inner rest all.1) in
      (record { head = head_of p v.0; regions = below.0 }, record { view = v.0; there = v.1; head = refl; regions = below.1 })
