-- What contracts say of the values that operations and blocks define, and of values that come and go.
use Rattle.std.specs.Prelude.{◌≡◌, ◌≢◌, ℕ, List, Some, None, slice_get}
use Rattle.ir_base.specs.declared.types.TypeHandle.{TypeHandle}
use Rattle.ir_program.specs.Program.{Program, TypedValue, results_at, arguments_at, value_in, type_at}
use Rattle.ir_program.specs.Uses.{IsUsed}
use Rattle.ir_program.specs.declared.handles.Value.{Value}
use Rattle.ir_program.specs.declared.handles.DefiningEntity.{DefiningEntity}
use Rattle.ir_program.specs.declared.handles.DefiningEntity.TheVariants.{Op as ByOp, Block as ByBlock}

module _ {O B : Type 0} where
  -- the results of an operation, or the arguments of a block
  abbrev pub values_at : Program O B → DefiningEntity → List TypedValue
  values_at c (ByOp p) = results_at c p
  values_at c (ByBlock p) = arguments_at c p

  -- the value stands once among the results or arguments of its definer, with this type
  pub record StandsAtDefiner (c : Program O B) (v : Value) (ty : TypeHandle) : Type 0 where
    pub index : ℕ
    pub stands : slice_get (values_at c v.definer) index ≡ Some (record { value = v; ty = ty })
    pub once : (k : ℕ) → value_in (values_at c v.definer) k ≡ Some v → k ≡ index

  -- v, which stood nowhere, is a value of this type now, which no operation takes; each other value is as it was
  pub record DefinesValue (old new : Program O B) (v : Value) (ty : TypeHandle) : Type 0 where
    pub fresh : type_at old v ≡ None
    pub defined : type_at new v ≡ Some ty
    pub unused : IsUsed new v → ⊥
    pub others : (x : Value) → x ≢ v → type_at new x ≡ type_at old x

  -- v stands nowhere any more; each other value is as it was
  pub record ForgetsValue (old new : Program O B) (v : Value) : Type 0 where
    pub gone : type_at new v ≡ None
    pub others : (x : Value) → x ≢ v → type_at new x ≡ type_at old x
