-- Which handles lead to types, and what holds of the types of every context.
use Rattle.std.specs.Prelude.{◌≡◌, ℕ, ◌<◌, List, Some, slice_get}
use Rattle.ir_base.specs.declared.types.TypeHandle.{TypeHandle}
use Rattle.ir_program.specs.Program.{Program, type_at}
use Rattle.ir_program.specs.declared.handles.Value.{Value}

-- the handle leads to one of so many types
abbrev pub IsKnownIn : ℕ → TypeHandle → Type 0
IsKnownIn count ty = ty.number < count

-- each of the handles does
abbrev pub AreKnownIn : ℕ → List TypeHandle → Type 0
AreKnownIn count tys = (k : ℕ) (ty : TypeHandle) → slice_get tys k ≡ Some ty → IsKnownIn count ty

-- the type of each value is one of so many types
abbrev pub HasKnownTypes : {O B : Type 0} → ℕ → Program O B → Type 0
HasKnownTypes count c = (v : Value) (ty : TypeHandle) → type_at c v ≡ Some ty → IsKnownIn count ty
