-- No operation comes to be outside the root where what is dead goes, and handles are kept.
use Rattle.std.proofs.Common.{◌≡◌, inl, inr, ⊎_elim, ℕ, zero, suc, Bool, true, false, List, [], ◌∷◌, Option, Some, None, IsSome, option_map}
use Rattle.std.proofs.Common.{unwrap_or, slice_get, refl, sym, ap, ◌∙◌, subst}
use Rattle.std.specs.Prelude.{if◌then◌else◌}
use Rattle.ir_program.specs.Lists.{StandsInside, itself, in_block, in_region, in_operation, IsLiveNode}
use Rattle.ir_program.specs.Program.{Program, OperationView, BlockView, RegionView, operation_at, block_at}
use Rattle.ir_program.specs.declared.handles.IRNode.{IRNode}
use Rattle.ir_program.specs.declared.handles.IRNode.TheVariants.{Operation as OperationNode, Region as RegionNode}
use Rattle.ir_program.specs.declared.handles.IRNode.TheVariants.{BasicBlock as BlockNode}
use Rattle.ir_program.specs.declared.handles.Operation.{Operation}
use Rattle.ir_program.specs.declared.handles.Ptr.{Ptr}
use Rattle.ir_trees.specs.Stands.{by_handle, in_program}
use Rattle.opt_trees.specs.Dialect.{Dialect}
use Rattle.opt_trees.specs.Dce.{Gone, Whole}
use Rattle.opt_dce.specs.liveness.Plans.{GoesWith}
use Rattle.opt_dce.specs.Steps.{without, GoesBelowRoot, loses, thin_block, HasThinned}
use Rattle.opt_handles.specs.Handles.{KeepsHandles}
use Rattle.opt_handles.proofs.Handles.{not_both}
use Rattle.opt_inside.specs.Outside.{AddsNoneOutside}
use Rattle.opt_dce.proofs.Picking.{not_true}

-- what isn't picked is still listed
still_listed : {X : Type 0} (picks : X → Bool) (xs : List X) (k : ℕ) (x : X) → slice_get xs k ≡ Some x → picks x ≡ false
    → (j : ℕ) × (slice_get (without picks xs) j ≡ Some x)
still_listed picks [] k x at none = cc
still_listed picks (y ∷ ys) zero x at none =
    let same : y ≡ x = cc in
    subst (λ (b : Bool). (j : ℕ) × (slice_get (if b then without picks ys else y ∷ without picks ys) j ≡ Some x))
    (sym (ap picks same ∙ none)) (zero, at)
still_listed picks (y ∷ ys) (suc k) x at none = go (picks y) (still_listed picks ys k x at none)
  where
    go : (b : Bool) → (j : ℕ) × (slice_get (without picks ys) j ≡ Some x)
        → (j : ℕ) × (slice_get (if b then without picks ys else y ∷ without picks ys) j ≡ Some x)
    go true there = there
    go false there = (suc there.0, there.1)

mapped_some : {X Y : Type 0} (f : X → Y) (o : Option X) → IsSome o → IsSome (option_map f o)
mapped_some f None h = h
mapped_some f (Some x) h = refl

some_mapped : {X Y : Type 0} (f : X → Y) (o : Option X) → IsSome (option_map f o) → IsSome o
some_mapped f None h = h
some_mapped f (Some x) h = refl

module _ {O B A : Type 0} (d : Dialect (in_program O B) A) (old new : Program O B) (op : Ptr Operation)
    (g : Gone by_handle) (below : GoesBelowRoot old op g) (thinned : HasThinned d g old new) where
  same_regions : (picks : ℕ → Bool) (o : Option (OperationView O))
      → unwrap_or (option_map (λ (v : OperationView O). v.regions) (option_map (loses d picks) o)) []
      ≡ unwrap_or (option_map (λ (v : OperationView O). v.regions) o) []
  same_regions picks None = refl
  same_regions picks (Some v) = refl

  thin_operations : (o : Option (BlockView B)) (k : ℕ) (p : Ptr Operation) → g.item (Whole p) ≡ false
      → slice_get (unwrap_or (option_map (λ (v : BlockView B). v.operations) o) []) k ≡ Some p
      → (j : ℕ) × (slice_get (unwrap_or (option_map (λ (v : BlockView B). v.operations) (option_map (thin_block d g) o)) [])
      j ≡ Some p)
  thin_operations None k p stays at = (k, at)
  thin_operations (Some v) k p stays at = still_listed (λ q. g.item (Whole q)) v.operations k p at stays

  -- what is inside the root and doesn't go is inside it still
  still_inside : (e : IRNode) → StandsInside old (OperationNode op) e → (GoesWith old g e → ⊥)
      → StandsInside new (OperationNode op) e
  still_inside _ itself stays = itself
  still_inside _ (in_block p b s i) stays =
      let around : GoesWith old g (BlockNode b) → ⊥ = λ h. stays (h.0, h.1, in_block p b s h.2) in
      let listed = thin_operations (block_at old b) s.index p
      (not_true (g.item (Whole p)) (λ h. stays (p, h, itself))) s.here in
      in_block p b (record {
        operation = subst IsSome (sym (thinned.operations p stays))
            (mapped_some (loses d (g.operand p)) (operation_at old p) s.operation);
        block = subst IsSome (sym (thinned.blocks b around)) (mapped_some (thin_block d g) (block_at old b) s.block);
        index = listed.0;
        here = ap (λ o. slice_get (unwrap_or (option_map (λ (v : BlockView B). v.operations) o) []) listed.0)
            (thinned.blocks b around) ∙ listed.1;
      }) (still_inside (BlockNode b) i around)
  still_inside _ (in_region b r s i) stays =
      let around : GoesWith old g (RegionNode r) → ⊥ = λ h. stays (h.0, h.1, in_region b r s h.2) in
      in_region b r (record {
        block = subst IsSome (sym (thinned.blocks b stays)) (mapped_some (thin_block d g) (block_at old b) s.block);
        region = subst IsSome (sym (thinned.regions r around)) s.region;
        index = s.index;
        here = ap (λ o. slice_get (unwrap_or (option_map (λ (v : RegionView). v.blocks) o) []) s.index)
            (thinned.regions r around) ∙ s.here;
      }) (still_inside (RegionNode r) i around)
  still_inside _ (in_operation r p s i) stays =
      let around : GoesWith old g (OperationNode p) → ⊥ = λ h. stays (h.0, h.1, in_operation r p s h.2) in
      in_operation r p (record {
        region = subst IsSome (sym (thinned.regions r stays)) s.region;
        operation = subst IsSome (sym (thinned.operations p around))
            (mapped_some (loses d (g.operand p)) (operation_at old p) s.operation);
        index = s.index;
        here = ap (λ o. slice_get (unwrap_or (option_map (λ (v : OperationView O). v.regions) o) []) s.index)
            (thinned.operations p around)
            ∙ ap (λ l. slice_get l s.index) (same_regions (g.operand p) (operation_at old p)) ∙ s.here;
      }) (still_inside (OperationNode p) i around)

  -- what is in an operation is there
  there_in : (x e : IRNode) → StandsInside old x e → (p : Ptr Operation) → e ≡ OperationNode p
      → (x ≡ e → IsSome (operation_at old p)) → IsSome (operation_at old p)
  there_in x _ itself p same first = first refl
  there_in x _ (in_block q b s i) p same first =
      let named : q ≡ p = cc in subst (λ z. IsSome (operation_at old z)) named s.operation
  there_in x _ (in_region b r s i) p same first = cc
  there_in x _ (in_operation r q s i) p same first = cc

  below_there : (a : Ptr Operation) → g.item (Whole a) ≡ true → IsSome (operation_at old a)
  below_there a goes = there_in (OperationNode op) (OperationNode a) (below.operations a goes).inside a refl
      (λ e. let same : a ≡ op = cc in absurd ((below.operations a goes).other same))

  -- what is inside the root is there
  inside_there : IsSome (operation_at old op) → (e : IRNode) → StandsInside old (OperationNode op) e → IsLiveNode old e
  inside_there live _ itself = live
  inside_there live _ (in_block p b s i) = s.operation
  inside_there live _ (in_region b r s i) = s.block
  inside_there live _ (in_operation r p s i) = s.region

  pub handles_kept : IsSome (operation_at old op) → KeepsHandles old new op
  handles_kept root = record {
    erased = thinned.erased;
    inside = λ e i.
        let there = inside_there root e i in
        ⊎_elim
        (λ live. inl (still_inside e i (λ goes. not_both new e (thinned.gone e there goes) live)))
        inr
        (thinned.decided e there);
  }

  pub adds_none : AddsNoneOutside old new op
  adds_none p live out =
      let stays : GoesWith old g (OperationNode p) → ⊥ = λ h.
      let was = there_in (OperationNode h.0) (OperationNode p) h.2 p refl
      (λ e. let same : h.0 ≡ p = cc in subst (λ z. IsSome (operation_at old z)) same (below_there h.0 h.1)) in
      let none = (thinned.gone (OperationNode p) was h).0 in
      let some : IsSome {T = OperationView O} None = subst IsSome none live in cc in (
        some_mapped (loses d (g.operand p)) (operation_at old p) (subst IsSome (thinned.operations p stays) live),
        λ inside. out (still_inside (OperationNode p) inside stays),
      )
