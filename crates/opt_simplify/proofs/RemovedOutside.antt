-- No operation comes to be outside the root where blocks are removed.
use Rattle.std.proofs.Common.{◌≡◌, ℕ, zero, suc, Bool, true, false, List, [], ◌∷◌, Option, Some, None, IsSome}
use Rattle.std.proofs.Common.{option_map, unwrap_or, slice_get, refl, sym, ap, ◌∙◌, subst}
use Rattle.std.specs.Prelude.{if◌then◌else◌}
use Rattle.ir_program.specs.Lists.{StandsInside, itself, in_block, in_region, in_operation}
use Rattle.ir_program.specs.Program.{Program, OperationView, BlockView, RegionView, operation_at, region_at}
use Rattle.ir_program.specs.declared.handles.BasicBlock.{BasicBlock}
use Rattle.ir_program.specs.declared.handles.IRNode.{IRNode}
use Rattle.ir_program.specs.declared.handles.IRNode.TheVariants.{Operation as OperationNode, Region as RegionNode}
use Rattle.ir_program.specs.declared.handles.IRNode.TheVariants.{BasicBlock as BlockNode}
use Rattle.ir_program.specs.declared.handles.Operation.{Operation}
use Rattle.ir_program.specs.declared.handles.Ptr.{Ptr}
use Rattle.opt_inside.specs.Outside.{AddsNoneOutside}
use Rattle.opt_simplify.specs.Removed.{without, IsWithinPickedBlocks, ErasesPickedBlocks}
use Rattle.opt_simplify.proofs.RemovedPicking.{not_true}

-- what isn't picked is still listed
still_listed : {X : Type 0} (picks : X → Bool) (xs : List X) (k : ℕ) (x : X) → slice_get xs k ≡ Some x → picks x ≡ false
    → (j : ℕ) × (slice_get (without picks xs) j ≡ Some x)
still_listed picks [] k x at none = cc
still_listed picks (y ∷ ys) zero x at none =
    let same : y ≡ x = cc in
    subst (λ (b : Bool). (j : ℕ) × (slice_get (if b then without picks ys else y ∷ without picks ys) j ≡ Some x))
    (sym (ap picks same ∙ none)) (zero, at)
still_listed picks (y ∷ ys) (suc k) x at none = go (picks y) (still_listed picks ys k x at none)
  where
    go : (b : Bool) → (j : ℕ) × (slice_get (without picks ys) j ≡ Some x)
        → (j : ℕ) × (slice_get (if b then without picks ys else y ∷ without picks ys) j ≡ Some x)
    go true there = there
    go false there = (suc there.0, there.1)

something : {X : Type 0} (o : Option X) → IsSome o → (x : X) × (o ≡ Some x)
something (Some x) h = (x, refl)
something None h = cc

mapped_some : {X Y : Type 0} (f : X → Y) (o : Option X) → IsSome o → IsSome (option_map f o)
mapped_some f None h = h
mapped_some f (Some x) h = refl

module _ {O B : Type 0} (old new : Program O B) (op : Ptr Operation) (picks : Ptr BasicBlock → Bool)
    (loses : ErasesPickedBlocks old new picks) where
  -- what is inside the root and doesn't go is inside it still
  still_inside : (e : IRNode) → StandsInside old (OperationNode op) e → (IsWithinPickedBlocks old picks e → ⊥)
      → StandsInside new (OperationNode op) e
  still_inside _ itself stays = itself
  still_inside _ (in_block p b s i) stays =
      let around : IsWithinPickedBlocks old picks (BlockNode b) → ⊥ = λ h. stays (h.0, h.1, in_block p b s h.2) in
      let same = loses.blocks b around in
      in_block p b (record {
        operation = subst IsSome (sym (loses.operations p stays)) s.operation;
        block = subst IsSome (sym same) s.block;
        index = s.index;
        here = ap (λ o. slice_get (unwrap_or (option_map (λ (v : BlockView B). v.operations) o) []) s.index) same ∙ s.here;
      }) (still_inside (BlockNode b) i around)
  still_inside _ (in_region b r s i) stays =
      let around : IsWithinPickedBlocks old picks (RegionNode r) → ⊥ = λ h. stays (h.0, h.1, in_region b r s h.2) in
      let v = something (region_at old r) s.region in
      let now : region_at new r ≡ Some (record v.0 { blocks = without picks v.0.blocks }) =
      loses.regions r around ∙ ap (option_map (λ (x : RegionView). record x { blocks = without picks x.blocks })) v.1 in
      let was : slice_get v.0.blocks s.index ≡ Some b =
      ap (λ o. slice_get (unwrap_or (option_map (λ (x : RegionView). x.blocks) o) []) s.index) (sym v.1) ∙ s.here in
      let listed = still_listed picks v.0.blocks s.index b was (not_true (picks b) (λ h. stays (b, h, itself))) in
      in_region b r (record {
        block = subst IsSome (sym (loses.blocks b stays)) s.block;
        region = subst IsSome (sym now) refl;
        index = listed.0;
        here = ap (λ o. slice_get (unwrap_or (option_map (λ (x : RegionView). x.blocks) o) []) listed.0) now ∙ listed.1;
      }) (still_inside (RegionNode r) i around)
  still_inside _ (in_operation r p s i) stays =
      let around : IsWithinPickedBlocks old picks (OperationNode p) → ⊥ = λ h. stays (h.0, h.1, in_operation r p s h.2) in
      let same = loses.operations p around in
      in_operation r p (record {
        region = subst IsSome (sym (loses.regions r stays)) (mapped_some (λ (x : RegionView). record x { blocks = without picks x.blocks }) (region_at old r)
            s.region);
        operation = subst IsSome (sym same) s.operation;
        index = s.index;
        here = ap (λ o. slice_get (unwrap_or (option_map (λ (v : OperationView O). v.regions) o) []) s.index) same ∙ s.here;
      }) (still_inside (OperationNode p) i around)

  -- what is in a block is there
  there_in : (b : Ptr BasicBlock) (e : IRNode) → StandsInside old (BlockNode b) e → (p : Ptr Operation)
      → e ≡ OperationNode p → IsSome (operation_at old p)
  there_in b _ itself p same = cc
  there_in b _ (in_block q c s i) p same =
      let named : q ≡ p = cc in subst (λ z. IsSome (operation_at old z)) named s.operation
  there_in b _ (in_region c r s i) p same = cc
  there_in b _ (in_operation r q s i) p same = cc

  pub adds_none : AddsNoneOutside old new op
  adds_none p live out =
      let stays : IsWithinPickedBlocks old picks (OperationNode p) → ⊥ = λ h.
      let none = (loses.gone (OperationNode p) (there_in h.0 (OperationNode p) h.2 p refl) h).0 in
      let some : IsSome {T = OperationView O} None = subst IsSome none live in cc in (
        subst IsSome (loses.operations p stays) live,
        λ inside. out (still_inside (OperationNode p) inside stays),
      )
