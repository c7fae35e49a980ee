-- What edges that stay in their region say.
use Rattle.std.proofs.Common.{◌≡◌, ◌≢◌, ℕ, zero, suc, ◌+◌, Bool, true, List, [], ◌∷◌, length, Option, Some, None, IsSome, slice_get, refl, sym, ◌∙◌, subst, arith}
use Rattle.std.proofs.lemmas.Option.{same_Some, slice_get_past}
use Rattle.ir_program.specs.Program.{Program, OperationView, operation_at}
use Rattle.ir_program.specs.Lists.{StandsInBlock, StandsInRegion, operations_in, StandsInside, itself, in_block, in_region, in_operation}
use Rattle.ir_program.specs.Rows.{successors_at}
use Rattle.ir_program.specs.declared.handles.IRNode.{IRNode}
use Rattle.ir_program.specs.declared.handles.IRNode.TheVariants.{Operation as OperationNode, Region as RegionNode, BasicBlock as BlockNode}
use Rattle.ir_program.specs.declared.handles.Ptr.{Ptr}
use Rattle.ir_program.specs.declared.handles.Operation.{Operation}
use Rattle.ir_program.specs.declared.handles.Region.{Region}
use Rattle.ir_program.specs.declared.handles.BasicBlock.{BasicBlock}
use Rattle.ir_trees.specs.Searched.{Lists}
use Rattle.opt_inside.specs.Edges.{HasLocalEdgesBelow}
use Rattle.opt_inside.specs.Occurring.{IsBelowRoot, IsBlockBelow}
use Rattle.opt_inside.proofs.Around.{HasLists}
use Rattle.opt_inside.specs.forwarding.Local.{IsLocalEdge}

-- what an option that isn't empty has
pub something : {X : Type 0} (o : Option X) → IsSome o → (x : X) × (o ≡ Some x)
something (Some x) h = (x, refl)
something None h = cc

-- behind the last one of a list there is none
pub at_end : {X : Type 0} (xs : List X) (k : ℕ) → k + 1 ≡ length xs → slice_get xs (k + 1) ≡ None
at_end xs k e = slice_get_past xs (k + 1) (omega arith)

-- one with none behind it is the last
is_last : {X : Type 0} (xs : List X) (k : ℕ) (x : X) → slice_get xs k ≡ Some x → slice_get xs (k + 1) ≡ None → k + 1 ≡ length xs
is_last [] k x here none = cc
is_last (y ∷ []) zero x here none = omega arith
is_last (y ∷ z ∷ xs) zero x here none = cc
is_last (y ∷ xs) (suc k) x here none =
    let at : slice_get xs (k + 1) ≡ None = (let e : suc k + 1 ≡ suc (k + 1) = omega arith in subst (λ n. slice_get (y ∷ xs) n ≡ None) e none) in
    let less : k + 1 ≡ length xs = is_last xs k x here at in omega arith

module _ {O B : Type 0} (is_terminator : O → Bool) (c : Program O B) (op : Ptr Operation) where
  -- an operation below the root is in a block there
  around_operation : (e : IRNode) (p : Ptr Operation) → StandsInside c (OperationNode op) e → e ≡ OperationNode p → p ≢ op → (b : Ptr BasicBlock) × StandsInBlock c p b × StandsInside c (OperationNode op) (BlockNode b)
  around_operation _ p itself same other = let e : p ≡ op = cc in absurd (other e)
  around_operation _ p (in_block q b s i) same other = let e : q ≡ p = cc in (b, subst (λ z. StandsInBlock c z b) e s, i)
  around_operation _ p (in_region b r s i) same other = cc
  around_operation _ p (in_operation r q s i) same other = cc

  -- a block below the root is in a region there
  around_block : (e : IRNode) (b : Ptr BasicBlock) → StandsInside c (OperationNode op) e → e ≡ BlockNode b → (r : Ptr Region) × StandsInRegion c b r × StandsInside c (OperationNode op) (RegionNode r)
  around_block _ b itself same = cc
  around_block _ b (in_region a r s i) same = let e : a ≡ b = cc in (r, subst (λ z. StandsInRegion c z r) e s, i)
  around_block _ b (in_block q a s i) same = cc
  around_block _ b (in_operation r q s i) same = cc

  -- an edge from an operation below the root leads to a block there
  pub leads_below : HasLocalEdgesBelow is_terminator c op → (p : Ptr Operation) (s : Ptr BasicBlock) → IsBelowRoot c op p → Lists (successors_at c p) s → IsBlockBelow c op s
  leads_below h p s below edge =
      let b = around_operation (OperationNode p) p below.inside refl below.other in
      let r = around_block (BlockNode b.0) b.0 b.2 refl in
      in_region s r.0 (h.leaving p s b.0 r.0 below edge b.1 r.1) r.2

module _ {O B : Type 0} (is_terminator : O → Bool) (c : Program O B) (lists : HasLists c) where
  -- what an edge that stays in its region says of whatever block and region its operation is in
  pub stays_beside : (p : Ptr Operation) (s b : Ptr BasicBlock) (r : Ptr Region) → IsLocalEdge is_terminator c p s → StandsInBlock c p b → StandsInRegion c b r → StandsInRegion c s r
  stays_beside p s b r edge in_b in_r =
      let block : edge.block ≡ b = (lists.operations_once p edge.block b edge.in_block.index in_b.index edge.in_block.here in_b.here).0 in
      let first : StandsInRegion c b edge.siblings.region = subst (λ z. StandsInRegion c z edge.siblings.region) block edge.siblings.first in
      let region : edge.siblings.region ≡ r = (lists.blocks_once b edge.siblings.region r first.index in_r.index first.here in_r.here).0 in
      subst (StandsInRegion c s) region edge.siblings.second

  pub leaves_last : (p : Ptr Operation) (s b : Ptr BasicBlock) (k : ℕ) → IsLocalEdge is_terminator c p s → slice_get (operations_in c b) k ≡ Some p → k + 1 ≡ length (operations_in c b)
  leaves_last p s b k edge here =
      let same = lists.operations_once p edge.block b edge.in_block.index k edge.in_block.here here in
      let none : slice_get (operations_in c b) (edge.in_block.index + 1) ≡ None = subst (λ z. slice_get (operations_in c z) (edge.in_block.index + 1) ≡ None) same.0 edge.last in
      is_last (operations_in c b) k p here (subst (λ n. slice_get (operations_in c b) (n + 1) ≡ None) same.1 none)

  pub is_terminator_of : (p : Ptr Operation) (s : Ptr BasicBlock) (v : OperationView O) → IsLocalEdge is_terminator c p s → operation_at c p ≡ Some v → is_terminator v.payload ≡ true
  is_terminator_of p s v edge there =
      let same : edge.view ≡ v = same_Some edge.view v (sym edge.there ∙ there) in
      subst (λ (w : OperationView O). is_terminator w.payload ≡ true) same edge.terminator
