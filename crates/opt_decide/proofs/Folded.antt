-- What results fold to with no operand known, step by step.
use Rattle.std.proofs.Common.{◌≡◌, ℕ, true, false, List, [], map, Option, Some, None, option_map, unwrap_or, slice_get, refl, sym, ap, ◌∙◌}
use Rattle.std.specs.Prelude.{IsSome, if◌then◌else◌}
use Rattle.ir_base.specs.declared.types.TypeHandle.{TypeHandle}
use Rattle.ir_program.specs.Definers.{StandsAtDefiner, values_at}
use Rattle.ir_program.specs.Program.{Program, TypedValue, OperationView, operation_at, type_at, IsLiveValue}
use Rattle.ir_program.specs.declared.handles.Ptr.{Ptr}
use Rattle.ir_program.specs.declared.handles.Operation.{Operation}
use Rattle.ir_program.specs.declared.handles.Value.{Value}
use Rattle.ir_program.specs.declared.handles.DefiningEntity.TheVariants.{Op as ByOp}
use Rattle.ir_trees.specs.Stands.{in_program}
use Rattle.opt_trees.specs.Dialect.{Dialect}
use Rattle.opt_inside.specs.Around.{or_none, folded_alone}
use Rattle.opt_decide.specs.Planned.{found_among, folded_if}
use Rattle.opt_decide.proofs.Found.{found_nothing, found_index, not_found}

pub same_some : {X : Type 0} (x y : X) → Some x ≡ Some y → x ≡ y
same_some x y e = cc

pub something : {X : Type 0} (o : Option X) → IsSome o → (x : X) × (o ≡ Some x)
something None h = cc
something (Some x) h = (x, refl)

module _ {O B A : Type 0} (d : Dialect (in_program O B) A) where
  pub unfolded : (o : Option (OperationView O)) (x : O) (v : Value) → option_map (λ (u : OperationView O). u.payload) o ≡ Some x → d.is_foldable x ≡ false → folded_if d o v ≡ None
  unfolded None x v e f = refl
  unfolded (Some u) x v e f =
      let no : d.is_foldable u.payload ≡ false = ap d.is_foldable (same_some u.payload x e) ∙ f in
      ap (λ b. found_among u.results (λ i. if b then or_none (slice_get (d.fold u.payload (map (λ (r : TypedValue). r.ty) u.results) (map (λ (w : Value). None) u.operands)) i) else None) v) no
      ∙ found_nothing u.results v

  pub folded_nowhere : (o : Option (OperationView O)) (v : Value) → found_among (unwrap_or (option_map (λ (u : OperationView O). u.results) o) []) Some v ≡ None → folded_if d o v ≡ None
  folded_nowhere None v h = refl
  folded_nowhere (Some u) v h = not_found (folded_alone d u) v u.results (λ i. i) h

  pub folded_there : (o : Option (OperationView O)) (x : O) (v : Value) (k : ℕ) (types : List TypeHandle) (known folds : List (Option A))
      → option_map (λ (u : OperationView O). u.payload) o ≡ Some x → d.is_foldable x ≡ true
      → found_among (unwrap_or (option_map (λ (u : OperationView O). u.results) o) []) Some v ≡ Some k
      → types ≡ map (λ (r : TypedValue). r.ty) (unwrap_or (option_map (λ (u : OperationView O). u.results) o) [])
      → known ≡ map (λ (w : Value). None) (unwrap_or (option_map (λ (u : OperationView O). u.operands) o) [])
      → folds ≡ d.fold x types known → or_none (slice_get folds k) ≡ folded_if d o v
  folded_there None x v k types known folds e f h ts ks is = cc
  folded_there (Some u) x v k types known folds e f h ts ks is =
      let same = same_some u.payload x e in
      let yes : d.is_foldable u.payload ≡ true = ap d.is_foldable same ∙ f in
      ap (λ xs. or_none (slice_get xs k)) (is ∙ (λ i. d.fold (sym same i) (ts i) (ks i)))
      ∙ ap (λ b. if b then or_none (slice_get (d.fold u.payload (map (λ (r : TypedValue). r.ty) u.results) (map (λ (w : Value). None) u.operands)) k) else None) (sym yes)
      ∙ sym (found_index (folded_alone d u) v u.results (λ i. i) k h)

pub there_with : {O : Type 0} (o : Option (OperationView O)) (i : ℕ) (x : TypedValue) → slice_get (unwrap_or (option_map (λ (u : OperationView O). u.results) o) []) i ≡ Some x → IsSome o
there_with None i x h = cc
there_with (Some u) i x h = refl

-- the operation that a value that stands somewhere is a result of is there
pub definer_there : {O B : Type 0} (c : Program O B) → ((v : Value) (ty : TypeHandle) → type_at c v ≡ Some ty → StandsAtDefiner c v ty) → (v : Value) (p : Ptr Operation) → IsLiveValue c v → ByOp p ≡ v.definer → IsSome (operation_at c p)
definer_there c stands v p live e =
    let ty = something (type_at c v) live in
    let s = stands v ty.0 ty.1 in
    there_with (operation_at c p) s.index (record { value = v; ty = ty.0 }) (ap (λ x. slice_get (values_at c x) s.index) e ∙ s.stands)
