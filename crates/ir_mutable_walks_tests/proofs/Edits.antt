-- Edits of a block's operations reshape only what is below the block.
use Rattle.std.proofs.Common.{◌≡◌, ◌≢◌, true, false, [], map, slice_get, Option, Some, None, IsSome, refl, sym, ap, ◌∙◌, subst}
use Rattle.std.specs.Prelude.{option_map, unwrap_or}
use Rattle.ir_program.specs.Edits.{EditsBlock, IsUnchanged}
use Rattle.ir_program.specs.Lists.{regions_in, IsLiveNode, StandsInside, itself, in_block, in_region, in_operation}
use Rattle.ir_program.specs.Made.{MakesBareOperation}
use Rattle.ir_program.specs.Preorder.{nodes_in}
use Rattle.ir_program.specs.Program.{Program, OperationView, BlockView, RegionView, operation_at, block_at, region_at}
use Rattle.ir_program.specs.declared.handles.BasicBlock.{BasicBlock}
use Rattle.ir_program.specs.declared.handles.IRNode.{IRNode}
use Rattle.ir_program.specs.declared.handles.IRNode.TheVariants.{Operation as OperationNode, Region as RegionNode, BasicBlock as BlockNode}
use Rattle.ir_program.specs.declared.handles.Operation.{Operation}
use Rattle.ir_program.specs.declared.handles.Ptr.{Ptr}
use Rattle.ir_program.specs.declared.handles.Region.{Region}
use Rattle.ir_mutable_walks.specs.Changes.{ReshapesBelow}

some_mapped : {X Y : Type 0} (f : X → Y) (o : Option X) → IsSome o → IsSome (option_map f o)
some_mapped f (Some x) h = h
some_mapped f None h = h

module _ {O B : Type 0} (old new : Program O B) (block : Ptr BasicBlock) (there : IsSome (block_at new block)) (operations : (q : Ptr Operation) → IsSome (operation_at old q) → operation_at new q ≡ operation_at old q)
    (blocks : (q : Ptr BasicBlock) → q ≢ block → block_at new q ≡ block_at old q) (regions : (q : Ptr Region) → region_at new q ≡ region_at old q) where
  other : (q : Ptr BasicBlock) → (StandsInside old (BlockNode block) (BlockNode q) → ⊥) → q ≢ block
  other q apart s = apart (subst (λ z. StandsInside old (BlockNode block) (BlockNode z)) (sym s) itself)

  live : (e : IRNode) → IsLiveNode old e → (StandsInside old (BlockNode block) e → ⊥) → IsLiveNode new e
  live (OperationNode q) h apart = subst IsSome (sym (operations q h)) h
  live (RegionNode q) h apart = subst IsSome (sym (regions q)) h
  live (BlockNode q) h apart = subst IsSome (sym (blocks q (other q apart))) h

  same : (e : IRNode) → IsLiveNode old e → (StandsInside old (BlockNode block) e → ⊥) → nodes_in new e ≡ nodes_in old e
  same (OperationNode q) h apart = ap (λ o. map RegionNode (unwrap_or (option_map (λ (v : OperationView O). v.regions) o) [])) (operations q h)
  same (RegionNode q) h apart = ap (λ o. map BlockNode (unwrap_or (option_map (λ (v : RegionView). v.blocks) o) [])) (regions q)
  same (BlockNode q) h apart = ap (λ o. map OperationNode (unwrap_or (option_map (λ (v : BlockView B). v.operations) o) [])) (blocks q (other q apart))

  below : ReshapesBelow old new (BlockNode block)
  below = record { there = there; live = live; same = same }

module _ {O B : Type 0} where
  pub unchanged : (old : Program O B) (n : IRNode) → IsLiveNode old n → ReshapesBelow old old n
  unchanged old n h = record { there = h; live = λ e l apart. l; same = λ e l apart. refl }

  pub edited : (old new : Program O B) (block : Ptr BasicBlock) (f : BlockView B → BlockView B) → IsSome (block_at old block) → EditsBlock old new block f → ReshapesBelow old new (BlockNode block)
  edited old new block f h e = below old new block (subst IsSome (sym e.edited) (some_mapped f (block_at old block) h)) (λ q l. e.operations q) e.others e.regions

  not_fresh : (old mid : Program O B) (p : Ptr Operation) (payload : O) → MakesBareOperation old mid p payload → (q : Ptr Operation) → IsSome (operation_at old q) → q ≢ p
  not_fresh old mid p payload m q l s = from (operation_at old p) m.fresh (subst (λ z. IsSome (operation_at old z)) s l) where
    from : (o : Option (OperationView O)) → o ≡ None → IsSome o → ⊥
    from (Some view) e h = cc
    from None e h = let no : false ≡ true = h in cc

  pub put : (old mid new : Program O B) (block : Ptr BasicBlock) (p : Ptr Operation) (payload : O) (f : BlockView B → BlockView B) → IsSome (block_at old block) → MakesBareOperation old mid p payload → EditsBlock mid new block f → ReshapesBelow old new (BlockNode block)
  put old mid new block p payload f h m e = below old new block
      (subst IsSome (sym e.edited) (some_mapped f (block_at mid block) (subst IsSome (sym (m.blocks block)) h)))
      (λ q l. e.operations q ∙ m.others q (not_fresh old mid p payload m q l))
      (λ q ne. e.others q ne ∙ m.blocks q)
      (λ q. e.regions q ∙ m.regions q)

  pub unmade : (old new : Program O B) (block : Ptr BasicBlock) → IsSome (block_at old block) → IsUnchanged old new → ReshapesBelow old new (BlockNode block)
  unmade old new block h u = below old new block (subst IsSome (sym (u.blocks block)) h) (λ q l. u.operations q) (λ q ne. u.blocks q) u.regions

  -- nothing but itself stands in an operation that was just made
  pub bare : (old mid : Program O B) (p : Ptr Operation) (payload : O) → MakesBareOperation old mid p payload → (e : IRNode) → StandsInside mid (OperationNode p) e → e ≡ OperationNode p
  bare old mid p payload m _ itself = refl
  bare old mid p payload m _ (in_block q b s h) = let no : BlockNode b ≡ OperationNode p = bare old mid p payload m (BlockNode b) h in cc
  bare old mid p payload m _ (in_region b r s h) = let no : RegionNode r ≡ OperationNode p = bare old mid p payload m (RegionNode r) h in cc
  bare old mid p payload m _ (in_operation r q s h) =
      let same : OperationNode q ≡ OperationNode p = bare old mid p payload m (OperationNode q) h in
      let is : q ≡ p = cc in
      let none : regions_in mid q ≡ [] = ap (regions_in mid) is ∙ ap (λ o. unwrap_or (option_map (λ (v : OperationView O). v.regions) o) []) m.made in
      let no : None ≡ Some r = sym (ap (λ rs. slice_get rs s.index) none) ∙ s.here in cc

  pub apart : (old mid : Program O B) (p : Ptr Operation) (payload : O) → MakesBareOperation old mid p payload → (block : Ptr BasicBlock) → StandsInside mid (OperationNode p) (BlockNode block) → ⊥
  apart old mid p payload m block s = let no : BlockNode block ≡ OperationNode p = bare old mid p payload m (BlockNode block) s in cc
