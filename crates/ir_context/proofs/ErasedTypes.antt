-- The types of values stay known where operations and blocks are made and erased.
use Rattle.std.proofs.Common.{⊎_elim, subst, Result, Ok, Err, IfOk, OnErr, ◌≢◌, ◌≡◌, ℕ, zero, suc, List, [], ◌∷◌, Option, None, Some, IsSome, option_map, unwrap_or, slice_get, ◌++◌, sym, ap, ◌∙◌, refl}
use Rattle.ir_base.specs.declared.types.TypeHandle.{TypeHandle}
use Rattle.ir_program.specs.Program.{Program, TypedValue, OperationView, BlockView, operation_at, type_at}
use Rattle.ir_program.specs.Definers.{StandsAtDefiner, values_at}
use Rattle.ir_program.specs.Adds.{numbered_values}
use Rattle.ir_program.specs.Made.{BuildsOperation, BuildsBlock, MakesRegion}
use Rattle.ir_program.specs.Edits.{IsUnchanged}
use Rattle.ir_program.specs.Lists.{IsLiveNode, StandsInside, itself, in_block, in_region, in_operation}
use Rattle.ir_program.specs.Erased.{definer_node, IsGone, ErasesOperation, ErasesBlock, ErasesRegion}
use Rattle.ir_program.specs.declared.handles.IRNode.{IRNode}
use Rattle.ir_program.specs.declared.handles.IRNode.TheVariants.{Operation as OperationNode, BasicBlock as BlockNode, Region as RegionNode}
use Rattle.ir_program.specs.declared.handles.DefiningEntity.{DefiningEntity}
use Rattle.ir_program.specs.declared.handles.DefiningEntity.TheVariants.{Op, Block}
use Rattle.ir_program.specs.declared.handles.Ptr.{Ptr}
use Rattle.ir_program.specs.declared.handles.Operation.{Operation}
use Rattle.ir_program.specs.declared.handles.BasicBlock.{BasicBlock}
use Rattle.ir_program.specs.declared.handles.Region.{Region}
use Rattle.ir_program.specs.declared.handles.Value.{Value}
use Rattle.ir_program.proofs.defined.Arrivals.{same_definer}
use Rattle.ir_program.proofs.defined.KeptTypes.{types-kept, unchanged-types}
use Rattle.ir_context.specs.Known.{IsKnownIn, AreKnownIn}
use Rattle.ir_context.proofs.KnownTypes.{kept_types}

-- the values that are numbered have the types of the list
numbered_type : (e : DefiningEntity) (n : ℕ) (tys : List TypeHandle) (k : ℕ) → option_map (λ (t : TypedValue). t.ty) (slice_get (numbered_values e n tys) k) ≡ slice_get tys k
numbered_type e n [] k = refl
numbered_type e n (ty ∷ tys) zero = refl
numbered_type e n (ty ∷ tys) (suc k) = numbered_type e (suc n) tys k

module _ {O B : Type 0} (c : Program O B) where
  -- what stands inside a live entity is live
  live_inside : (x e : IRNode) → IsLiveNode c x → StandsInside c x e → IsLiveNode c e
  live_inside x _ live itself = live
  live_inside x _ live (in_block p b here rest) = here.operation
  live_inside x _ live (in_region b r here rest) = here.block
  live_inside x _ live (in_operation r p here rest) = here.region

  -- what is gone defines no value
  no_values_gone : (e : DefiningEntity) → IsGone c (definer_node e) → values_at c e ≡ []
  no_values_gone (Op p) gone = ap (λ o. unwrap_or (option_map (λ (r : OperationView O). r.results) o) []) gone.0
  no_values_gone (Block p) gone = ap (λ b. unwrap_or (option_map (λ (r : BlockView B). r.arguments) b) []) gone.0

  no_value_gone : (v : Value) (ty : TypeHandle) → IsGone c (definer_node v.definer) → StandsAtDefiner c v ty → ⊥
  no_value_gone v ty gone h = let e : slice_get (values_at c v.definer) h.index ≡ None = ap (λ ts. slice_get ts h.index) (no_values_gone v.definer gone) in
      let s : slice_get (values_at c v.definer) h.index ≡ Some (record { value = v; ty = ty }) = h.stands in
      cc

module _ {O B : Type 0} (count : ℕ) (old new : Program O B) (known : (v : Value) (ty : TypeHandle) → type_at old v ≡ Some ty → IsKnownIn count ty)
    (stands : (v : Value) (ty : TypeHandle) → type_at new v ≡ Some ty → StandsAtDefiner new v ty) where
  -- where an entity is gone, with all that stood inside it
  erased_known : (x : IRNode) → IsLiveNode old x
      → ((e : IRNode) → IsLiveNode old e → StandsInside old x e → IsGone new e)
      → ((v : Value) → (StandsInside old x (definer_node v.definer) → ⊥) → type_at new v ≡ type_at old v)
      → (v : Value) (ty : TypeHandle) → type_at new v ≡ Some ty → IsKnownIn count ty
  erased_known x live gone same v ty e = known v ty (sym (same v (λ inside. no_value_gone new v ty (gone (definer_node v.definer) (live_inside old x (definer_node v.definer) live inside) inside) (stands v ty e))) ∙ e)

  pub erased_operation_known : (p : Ptr Operation) → IsSome (operation_at old p) → ErasesOperation old new p → (v : Value) (ty : TypeHandle) → type_at new v ≡ Some ty → IsKnownIn count ty
  erased_operation_known p live erases = erased_known (OperationNode p) live erases.gone erases.types

  pub erased_block_known : (p : Ptr BasicBlock) → IsLiveNode old (BlockNode p) → ErasesBlock old new p → (v : Value) (ty : TypeHandle) → type_at new v ≡ Some ty → IsKnownIn count ty
  erased_block_known p live erases = erased_known (BlockNode p) live erases.gone erases.types

  pub erased_region_known : (p : Ptr Region) → IsLiveNode old (RegionNode p) → ErasesRegion old new p → (v : Value) (ty : TypeHandle) → type_at new v ≡ Some ty → IsKnownIn count ty
  erased_region_known p live erases = erased_known (RegionNode p) live erases.gone erases.types

  -- where the definer e has come, with values of known types
  made_known : (e : DefiningEntity) (n : ℕ) (tys : List TypeHandle) → AreKnownIn count tys → values_at new e ≡ numbered_values e n tys
      → ((v : Value) → v.definer ≢ e → type_at new v ≡ type_at old v)
      → (v : Value) (ty : TypeHandle) → type_at new v ≡ Some ty → IsKnownIn count ty
  made_known e n tys here made others v ty typed = ⊎_elim
      (λ (same : v.definer ≡ e). let s : StandsAtDefiner new v ty = stands v ty typed in
      here s.index ty (sym (numbered_type e n tys s.index) ∙ ap (λ l. option_map (λ (t : TypedValue). t.ty) (slice_get l s.index)) (sym made) ∙ ap (λ d. option_map (λ (t : TypedValue). t.ty) (slice_get (values_at new d) s.index)) (sym same) ∙ ap (option_map (λ (t : TypedValue). t.ty)) s.stands))
      (λ (other : v.definer ≢ e). known v ty (sym (others v other) ∙ typed))
      (same_definer v.definer e)

  pub built_operation_known : {E : Type 0} (payload : O) (tys : List TypeHandle) (vs : List Value) (bs : List (Ptr BasicBlock)) (n : ℕ) → AreKnownIn count tys
      → (r : Result (Ptr Operation) E) → IfOk r (λ p. BuildsOperation old new p payload tys vs bs n) → OnErr r ((v : Value) → type_at new v ≡ type_at old v)
      → (v : Value) (ty : TypeHandle) → type_at new v ≡ Some ty → IsKnownIn count ty
  built_operation_known payload tys vs bs n here (Ok p) builds same = made_known (Op p) old.counter tys here (ap (λ o. unwrap_or (option_map (λ (r : OperationView O). r.results) o) []) builds.made) builds.types
  built_operation_known payload tys vs bs n here (Err e) builds same = kept_types count old new known same

  pub built_block_known : {E : Type 0} (payload : B) (tys : List TypeHandle) → AreKnownIn count tys
      → (r : Result (Ptr BasicBlock) E) → IfOk r (λ p. BuildsBlock old new p payload tys) → OnErr r ((v : Value) → type_at new v ≡ type_at old v)
      → (v : Value) (ty : TypeHandle) → type_at new v ≡ Some ty → IsKnownIn count ty
  built_block_known payload tys here (Ok p) builds same = made_known (Block p) old.counter tys here (ap (λ b. unwrap_or (option_map (λ (r : BlockView B). r.arguments) b) []) builds.made) builds.types
  built_block_known payload tys here (Err e) builds same = kept_types count old new known same

-- more regions are no other results
results_kept : {O : Type 0} (r : Ptr Region) (o : Option (OperationView O)) → unwrap_or (option_map (λ (x : OperationView O). x.results) (option_map (λ (x : OperationView O). record x { regions = x.regions ++ r ∷ [] }) o)) [] ≡ unwrap_or (option_map (λ (x : OperationView O). x.results) o) []
results_kept r None = refl
results_kept r (Some o) = refl

module _ {O B : Type 0} (old new : Program O B) where
  same_values : (p : Ptr Operation) (r : Ptr Region) → MakesRegion old new p r → (e : DefiningEntity) → values_at new e ≡ values_at old e
  same_values p r makes (Block b) = ap (λ o. unwrap_or (option_map (λ (x : BlockView B). x.arguments) o) []) (makes.blocks b)
  same_values p r makes (Op q) = ⊎_elim
      (λ (same : Op q ≡ Op p). subst (λ e. values_at new e ≡ values_at old e) (sym same) (ap (λ o. unwrap_or (option_map (λ (x : OperationView O). x.results) o) []) makes.holder ∙ results_kept r (operation_at old p)))
      (λ (other : Op q ≢ Op p). ap (λ o. unwrap_or (option_map (λ (x : OperationView O). x.results) o) []) (makes.operations q (λ same. other (ap Op same))))
      (same_definer (Op q) (Op p))

  -- where an operation has got a region, or nothing changed, values keep their types
  pub added_region_types : {E : Type 0} (p : Ptr Operation) (r : Result (Ptr Region) E) → IfOk r (λ x. MakesRegion old new p x) → OnErr r (IsUnchanged old new)
      → (v : Value) → type_at new v ≡ type_at old v
  added_region_types p (Ok r) makes same = types-kept old new (same_values p r makes)
  added_region_types p (Err e) makes same = unchanged-types old new same

  pub added_region_known : (count : ℕ) → ((v : Value) (ty : TypeHandle) → type_at old v ≡ Some ty → IsKnownIn count ty)
      → {E : Type 0} (p : Ptr Operation) (r : Result (Ptr Region) E) → IfOk r (λ x. MakesRegion old new p x) → OnErr r (IsUnchanged old new)
      → (v : Value) (ty : TypeHandle) → type_at new v ≡ Some ty → IsKnownIn count ty
  added_region_known count known p r makes same = kept_types count old new known (added_region_types p r makes same)
