-- What defines a value that stands at its definer is there.
use Rattle.std.proofs.Common.{◌≡◌, ℕ, ◌∙◌, [], Option, Some, None, IsSome, option_map, unwrap_or, slice_get, refl, sym, ap, subst}
use Rattle.ir_base.specs.declared.types.TypeHandle.{TypeHandle}
use Rattle.ir_program.specs.Program.{Program, OperationView, BlockView, TypedValue, operation_at, block_at, type_at, value_in, IsLiveValue}
use Rattle.ir_program.specs.Lists.{IsLiveNode}
use Rattle.ir_program.specs.Definers.{values_at, StandsAtDefiner}
use Rattle.ir_program.specs.Erased.{definer_node}
use Rattle.ir_program.specs.declared.handles.Value.{Value}
use Rattle.ir_program.specs.declared.handles.DefiningEntity.{DefiningEntity}
use Rattle.ir_program.specs.declared.handles.DefiningEntity.TheVariants.{Op as ByOp, Block as ByBlock}

module _ {O B : Type 0} (c : Program O B) where
  -- what defines a value is there
  pub defines_live : (e : DefiningEntity) (k : ℕ) (t : TypedValue) → slice_get (values_at c e) k ≡ Some t → IsLiveNode c (definer_node e)
  defines_live (ByOp p) k t here = by (operation_at c p) refl
    where
      by : (o : Option (OperationView O)) → operation_at c p ≡ o → IsSome (operation_at c p)
      by None none = let empty : slice_get (values_at c (ByOp p)) k ≡ None = ap (λ x. slice_get (unwrap_or (option_map (λ (v : OperationView O). v.results) x) []) k) none in cc
      by (Some o) some = subst IsSome (sym some) refl
  defines_live (ByBlock p) k t here = by (block_at c p) refl
    where
      by : (o : Option (BlockView B)) → block_at c p ≡ o → IsSome (block_at c p)
      by None none = let empty : slice_get (values_at c (ByBlock p)) k ≡ None = ap (λ x. slice_get (unwrap_or (option_map (λ (v : BlockView B). v.arguments) x) []) k) none in cc
      by (Some o) some = subst IsSome (sym some) refl

  pub definer_live : ((v : Value) (ty : TypeHandle) → type_at c v ≡ Some ty → StandsAtDefiner c v ty) → (v : Value) → IsLiveValue c v → IsLiveNode c (definer_node v.definer)
  definer_live stands v live = by (type_at c v) refl
    where
      by : (o : Option TypeHandle) → type_at c v ≡ o → IsLiveNode c (definer_node v.definer)
      by None none = let some : IsSome (type_at c v) = live in cc
      by (Some ty) some = let s : StandsAtDefiner c v ty = stands v ty some in defines_live v.definer s.index _ s.stands

  -- a value stands at one index
  pub one_index : ((v : Value) (ty : TypeHandle) → type_at c v ≡ Some ty → StandsAtDefiner c v ty) → (v : Value) → IsLiveValue c v → (j k : ℕ) → value_in (values_at c v.definer) j ≡ Some v → value_in (values_at c v.definer) k ≡ Some v → k ≡ j
  one_index stands v live j k at_j at_k = by (type_at c v) refl
    where
      by : (o : Option TypeHandle) → type_at c v ≡ o → k ≡ j
      by None none = let some : IsSome (type_at c v) = live in cc
      by (Some ty) some = let s : StandsAtDefiner c v ty = stands v ty some in s.once k at_k ∙ sym (s.once j at_j)
