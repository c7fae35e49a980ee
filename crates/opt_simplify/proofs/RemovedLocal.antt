-- Edges below an operation, and under a place, where blocks are gone that are named in what went alone.
use Rattle.std.proofs.Common.{◌≡◌, ℕ, Bool, false, is_some, length, Option, None, Some, IsSome, [], option_map, unwrap_or, slice_get, refl, sym, ap, ◌∙◌}
use Rattle.std.proofs.lemmas.Option.{none-some}
use Rattle.ir_program.specs.Lists.{StandsInBlock, StandsInRegion, itself, in_block, in_operation, IsLiveNode, operations_in, blocks_in}
use Rattle.ir_program.specs.Program.{Program, OperationView, BlockView, operation_at, block_at}
use Rattle.ir_program.specs.Rows.{successors_at}
use Rattle.ir_program.specs.declared.handles.IRNode.{IRNode}
use Rattle.ir_program.specs.declared.handles.IRNode.TheVariants.{Operation as OperationNode, Region as RegionNode, BasicBlock as BlockNode}
use Rattle.ir_program.specs.declared.handles.Ptr.{Ptr}
use Rattle.ir_program.specs.declared.handles.Operation.{Operation}
use Rattle.ir_program.specs.declared.handles.Region.{Region}
use Rattle.ir_program.specs.declared.handles.BasicBlock.{BasicBlock}
use Rattle.ir_trees.specs.Searched.{Lists}
use Rattle.ir_trees.specs.Stands.{in_program}
use Rattle.ir_trees.proofs.Members.{at_has, has_at}
use Rattle.opt_trees.specs.Dialect.{Dialect}
use Rattle.opt_inside.specs.Edges.{HasLocalEdgesBelow, FitsEdgesBelow}
use Rattle.opt_inside.specs.Occurring.{IsBelowRoot}
use Rattle.opt_inside.proofs.Around.{HasLists, inside_both}
use Rattle.opt_inside.specs.reach.Edges.{IsNodeUnder, HasLocalEdgesFrom, FitsEdgesFrom}
use Rattle.opt_inside.specs.reach.Starts.{BeginsAtRegion}
use Rattle.opt_inside.specs.declared.reach.starts.Start.{Start}
use Rattle.opt_inside.specs.declared.reach.starts.Start.TheVariants.{Operation as AtOperation, Block as AtBlock, Region as AtRegion}
use Rattle.opt_simplify.specs.Phases.{KeepsEdges}
use Rattle.opt_simplify.specs.Removed.{without, IsWithinPickedBlocks, ErasesPickedBlocks}
use Rattle.opt_simplify.proofs.RemovedErased.{was_there, is_left, live_outside, still_live, blocks_were, operations_were, regions_were, was_inside, is_inside, successors_were}
use Rattle.opt_simplify.proofs.RemovedPicking.{not_true}

module _ {O B : Type 0} (old new : Program O B) (lists : HasLists old) (op : Ptr Operation) (picks : Ptr BasicBlock → Bool) (done : ErasesPickedBlocks old new picks)
    (named : (p : Ptr Operation) (k : ℕ) (s : Ptr BasicBlock) → slice_get (successors_at old p) k ≡ Some s → IsWithinPickedBlocks old picks (BlockNode s) → IsWithinPickedBlocks old picks (OperationNode p)) where
  -- what names a block, or has an operation, is there
  names_live : (p : Ptr Operation) (s : Ptr BasicBlock) → Lists (successors_at new p) s → IsLiveNode new (OperationNode p)
  names_live p s l = by_view (operation_at new p) l.1 where
    by_view : (o : Option (OperationView O)) → slice_get (unwrap_or (option_map (λ (v : OperationView O). v.successors) o) []) l.0 ≡ Some s → IsSome o
    by_view None h = absurd (none-some s h)
    by_view (Some v) h = refl

  has_live : (b : Ptr BasicBlock) (k : ℕ) (p : Ptr Operation) → slice_get (operations_in new b) k ≡ Some p → IsLiveNode new (BlockNode b)
  has_live b k p at = by_view (block_at new b) at where
    by_view : (o : Option (BlockView B)) → slice_get (unwrap_or (option_map (λ (v : BlockView B). v.operations) o) []) k ≡ Some p → IsSome o
    by_view None h = absurd (none-some p h)
    by_view (Some v) h = refl

  -- where it stands it stood, and stands where it stood
  block_was : (p : Ptr Operation) (b : Ptr BasicBlock) → StandsInBlock new p b → StandsInBlock old p b
  block_was p b s =
      let out = live_outside old new lists picks done (BlockNode b) s.block in
      lists.operations b s.index p (ap (λ ps. slice_get ps s.index) (sym (operations_were old new lists picks done b out)) ∙ s.here)

  region_was : (b : Ptr BasicBlock) (r : Ptr Region) → StandsInRegion new b r → StandsInRegion old b r
  region_was b r s =
      let out = live_outside old new lists picks done (RegionNode r) s.region in
      let k = has_at (blocks_in old r) b (was_there picks (blocks_in old r) b (at_has (without picks (blocks_in old r)) s.index b (ap (λ bs. slice_get bs s.index) (sym (blocks_were old new lists picks done r out)) ∙ s.here))) in
      lists.blocks r k.0 b k.1

  region_is : (b : Ptr BasicBlock) (r : Ptr Region) → (IsWithinPickedBlocks old picks (BlockNode b) → ⊥) → IsLiveNode new (RegionNode r) → StandsInRegion old b r → StandsInRegion new b r
  region_is b r out live s =
      let above = live_outside old new lists picks done (RegionNode r) live in
      let stays : picks b ≡ false = not_true (picks b) (λ h. out (b, h, itself)) in
      let k = has_at (without picks (blocks_in old r)) b (is_left picks (blocks_in old r) b stays (at_has (blocks_in old r) s.index b s.here)) in
      record { block = still_live old new lists picks done (BlockNode b) out s.block; region = live; index = k.0; here = ap (λ bs. slice_get bs k.0) (blocks_were old new lists picks done r above) ∙ k.1 }

  was_below : (p : Ptr Operation) → IsBelowRoot new op p → IsBelowRoot old op p
  was_below p b = record { inside = was_inside old new lists picks done (OperationNode op) (OperationNode p) b.inside; other = b.other }

  named_was : (p : Ptr Operation) (s : Ptr BasicBlock) → Lists (successors_at new p) s → Lists (successors_at old p) s
  named_was p s l = (l.0, successors_were old new lists picks done p l.0 s l.1)

  op_out : (p : Ptr Operation) → IsLiveNode new (OperationNode p) → IsWithinPickedBlocks old picks (OperationNode p) → ⊥
  op_out p live = live_outside old new lists picks done (OperationNode p) live

  pub still_local : (is_terminator : O → Bool) → HasLocalEdgesBelow is_terminator old op → HasLocalEdgesBelow is_terminator new op
  still_local is_terminator edges = record {
    leaving = λ p s b r below l in_b in_r.
        let out = op_out p (names_live p s l) in
        let was = named_was p s l in
        region_is s r (λ w. out (named p was.0 s was.1 w)) in_r.region (edges.leaving p s b r (was_below p below) was (block_was p b in_b) (region_was b r in_r));
    entering = λ p s l below.
        let b = edges.entering p s (named_was p s l) (was_inside old new lists picks done (OperationNode op) (BlockNode s) below) in
        record { inside = is_inside old new lists picks done (OperationNode op) (OperationNode p) (op_out p (names_live p s l)) b.inside; other = b.other };
    last = λ p s b k below l here.
        let e = operations_were old new lists picks done b (live_outside old new lists picks done (BlockNode b) (has_live b k p here)) in
        edges.last p s b k (was_below p below) (named_was p s l) (ap (λ ps. slice_get ps k) (sym e) ∙ here) ∙ ap length (sym e);
    terminators = λ p s v below l there. edges.terminators p s v (was_below p below) (named_was p s l) (sym (done.operations p (op_out p (names_live p s l))) ∙ there);
  }

  pub still_fits : {A : Type 0} (d : Dialect (in_program O B) A) → FitsEdgesBelow d old op → FitsEdgesBelow d new op
  still_fits d fits p v i b below there branch at =
      let out = op_out p (ap is_some there) in
      let was : operation_at old p ≡ Some v = sym (done.operations p out) ∙ there in
      let edge : slice_get (successors_at old p) i ≡ Some b = ap (λ o. slice_get (unwrap_or (option_map (λ (w : OperationView O). w.successors) o) []) i) was ∙ at in
      fits p v i b (was_below p below) was branch at
      ∙ ap (λ o. length (unwrap_or (option_map (λ (w : BlockView B). w.arguments) o) [])) (sym (done.blocks b (λ w. out (named p i b edge w))))

  -- looking begins where it began, and what is under the place was so
  begins_was : (start : Start) (q : Ptr Operation) (r : Ptr Region) → BeginsAtRegion new start q r → BeginsAtRegion old start q r
  begins_was (AtOperation o) q r h = h
  begins_was (AtBlock b) q r h = block_was q b h
  begins_was (AtRegion f) q r h = h

  begins_is : (start : Start) (q : Ptr Operation) (r : Ptr Region) → (IsWithinPickedBlocks old picks (OperationNode q) → ⊥) → BeginsAtRegion old start q r → BeginsAtRegion new start q r
  begins_is (AtOperation o) q r out h = h
  begins_is (AtBlock b) q r out h =
      let above : IsWithinPickedBlocks old picks (BlockNode b) → ⊥ = λ w. out (w.0, w.1, in_block q b h w.2) in
      record {
        operation = still_live old new lists picks done (OperationNode q) out h.operation;
        block = still_live old new lists picks done (BlockNode b) above h.block;
        index = h.index;
        here = ap (λ ps. slice_get ps h.index) (operations_were old new lists picks done b above) ∙ h.here;
      }
  begins_is (AtRegion f) q r out h = h

  module _ (start : Start) where
    was_under : (e : IRNode) → IsNodeUnder new start e → IsNodeUnder old start e
    was_under e u =
        let s = u.of_operation in
        let out = live_outside old new lists picks done (OperationNode u.operation) s.operation in
        record {
          operation = u.operation;
          region = u.region;
          begins = begins_was start u.operation u.region u.begins;
          of_operation = lists.regions u.operation s.index u.region (ap (λ rs. slice_get rs s.index) (sym (regions_were old new lists picks done u.operation out)) ∙ s.here);
          inside = was_inside old new lists picks done (RegionNode u.region) e u.inside;
        }

    is_under : (e : IRNode) → (IsWithinPickedBlocks old picks e → ⊥) → IsNodeUnder old start e → IsNodeUnder new start e
    is_under e out u =
        let s = u.of_operation in
        let region_out : IsWithinPickedBlocks old picks (RegionNode u.region) → ⊥ = λ w. out (w.0, w.1, inside_both old (BlockNode w.0) (RegionNode u.region) e w.2 u.inside) in
        let owner_out : IsWithinPickedBlocks old picks (OperationNode u.operation) → ⊥ = λ w. region_out (w.0, w.1, in_operation u.region u.operation s w.2) in
        record {
          operation = u.operation;
          region = u.region;
          begins = begins_is start u.operation u.region owner_out u.begins;
          of_operation = record {
            region = still_live old new lists picks done (RegionNode u.region) region_out s.region;
            operation = still_live old new lists picks done (OperationNode u.operation) owner_out s.operation;
            index = s.index;
            here = ap (λ rs. slice_get rs s.index) (regions_were old new lists picks done u.operation owner_out) ∙ s.here;
          };
          inside = is_inside old new lists picks done (RegionNode u.region) e out u.inside;
        }

    pub still_local_under : (is_terminator : O → Bool) → HasLocalEdgesFrom is_terminator old start → HasLocalEdgesFrom is_terminator new start
    still_local_under is_terminator edges = record {
      leaving = λ p s b r u l in_b in_r.
          let out = op_out p (names_live p s l) in
          let was = named_was p s l in
          region_is s r (λ w. out (named p was.0 s was.1 w)) in_r.region (edges.leaving p s b r (was_under (OperationNode p) u) was (block_was p b in_b) (region_was b r in_r));
      entering = λ p s l u. is_under (OperationNode p) (op_out p (names_live p s l)) (edges.entering p s (named_was p s l) (was_under (BlockNode s) u));
      last = λ p s b k u l here.
          let e = operations_were old new lists picks done b (live_outside old new lists picks done (BlockNode b) (has_live b k p here)) in
          edges.last p s b k (was_under (OperationNode p) u) (named_was p s l) (ap (λ ps. slice_get ps k) (sym e) ∙ here) ∙ ap length (sym e);
      terminators = λ p s v u l there. edges.terminators p s v (was_under (OperationNode p) u) (named_was p s l) (sym (done.operations p (op_out p (names_live p s l))) ∙ there);
    }

    pub still_fits_under : {A : Type 0} (d : Dialect (in_program O B) A) → FitsEdgesFrom d old start → FitsEdgesFrom d new start
    still_fits_under d fits p v i b u there branch at =
        let out = op_out p (ap is_some there) in
        let was : operation_at old p ≡ Some v = sym (done.operations p out) ∙ there in
        let edge : slice_get (successors_at old p) i ≡ Some b = ap (λ o. slice_get (unwrap_or (option_map (λ (w : OperationView O). w.successors) o) []) i) was ∙ at in
        fits p v i b (was_under (OperationNode p) u) was branch at
        ∙ ap (λ o. length (unwrap_or (option_map (λ (w : BlockView B). w.arguments) o) [])) (sym (done.blocks b (λ w. out (named p i b edge w))))

    pub edges_kept : {A : Type 0} (d : Dialect (in_program O B) A) → HasLocalEdgesFrom d.is_terminator old start → KeepsEdges d old new op start
    edges_kept d edges = record {
      local_under = still_local_under d.is_terminator edges;
      local_below = still_local d.is_terminator;
      fits_under = still_fits_under d;
      fits_below = still_fits d;
    }

-- so they are where nothing has changed
pub edges_alike : {O B A : Type 0} (d : Dialect (in_program O B) A) (c : Program O B) (op : Ptr Operation) (start : Start) → HasLocalEdgesFrom d.is_terminator c start → KeepsEdges d c c op start
edges_alike d c op start edges = record { local_under = edges; local_below = λ h. h; fits_under = λ h. h; fits_below = λ h. h }
