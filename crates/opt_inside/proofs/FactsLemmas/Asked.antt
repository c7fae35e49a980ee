-- Operations that can be asked by their numbers.
use Rattle.std.proofs.Common.{◌≡◌, ℕ, ◌<◌, true≢false, List, [], length, get_or, Option, None, Some, Result, Ok, Err, slice_get, unwrap_or, option_map, refl, sym, ap, ◌∙◌, subst}
use Rattle.std.specs.Prelude.{IsSome, IfOk}
use Rattle.std.proofs.lemmas.Option.{none-some, same_Some, slice_get_within, slice_get-get_or}
use Rattle.ir_base.specs.declared.types.TypeHandle.{TypeHandle}
use Rattle.ir_program.specs.Program.{Program, OperationView, operation_at, results_at}
use Rattle.ir_program.specs.Lent.{payload_at}
use Rattle.ir_program.specs.declared.handles.Ptr.{Ptr}
use Rattle.ir_program.specs.declared.handles.Operation.{Operation}
use Rattle.ir_trees.specs.Stands.{in_program}
use Rattle.opt_trees.specs.Dialect.{Dialect}
use Rattle.opt_inside.specs.facts.Folds.{result_types, operation_if, operation_numbered, fold_if, feasible_if}

-- what holds of an answer, if there is one, follows from what else holds of it
pub ok_then : {T E : Type 0} {P Q : T → Type 0} (r : Result T E) → ((x : T) → P x → Q x) → IfOk r P → IfOk r Q
ok_then (Ok x) f h = f x h
ok_then (Err e) f h = h

module _ {O B : Type 0} (c : Program O B) where
  -- the operation whose number can be asked is there
  module _ (operations : List (Ptr Operation)) (row : ℕ) (can : IsSome (operation_numbered c operations row)) where
    pub row_within : row < length operations
    row_within = by (slice_get operations row) refl can
      where
        by : (o : Option (Ptr Operation)) → slice_get operations row ≡ o → IsSome (operation_if c o) → row < length operations
        by None e h = absurd (true≢false (sym h))
        by (Some p) e h = slice_get_within operations row p e

    pub row_at : (x : Ptr Operation) → operation_numbered c operations row ≡ operation_at c (get_or operations row x)
    row_at x = ap (operation_if c) (slice_get-get_or operations row x row_within)

    pub row_live : (x : Ptr Operation) → IsSome (operation_at c (get_or operations row x))
    row_live x = subst IsSome (row_at x) can

  -- what it is asked is what its payload is
  module _ {A : Type 0} (d : Dialect (in_program O B) A) (p : Ptr Operation) (w : O) (at : payload_at c p ≡ Some w) (known : List (Option A)) where
    pub feasible_there : (edge : ℕ) → d.feasible w known edge ≡ feasible_if d (operation_at c p) known edge
    feasible_there edge = by (operation_at c p) at
      where
        by : (o : Option (OperationView O)) → option_map (λ (v : OperationView O). v.payload) o ≡ Some w → d.feasible w known edge ≡ feasible_if d o known edge
        by None e = absurd (none-some w e)
        by (Some v) e = ap (λ (x : O). d.feasible x known edge) (sym (same_Some v.payload w e))

    pub fold_there : (types : List TypeHandle) → types ≡ result_types (results_at c p) → d.fold w types known ≡ fold_if d (operation_at c p) known
    fold_there types is = ap (λ (ts : List TypeHandle). d.fold w ts known) is ∙ by (operation_at c p) at
      where
        by : (o : Option (OperationView O)) → option_map (λ (v : OperationView O). v.payload) o ≡ Some w
            → d.fold w (result_types (unwrap_or (option_map (λ (v : OperationView O). v.results) o) [])) known ≡ fold_if d o known
        by None e = absurd (none-some w e)
        by (Some v) e = ap (λ (x : O). d.fold x (result_types v.results) known) (sym (same_Some v.payload w e))
