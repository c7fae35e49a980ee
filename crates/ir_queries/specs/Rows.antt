-- What contracts say of the rows of operations and blocks as whole lists.
use Rattle.std.specs.Prelude.{◌≡◌, ℕ, List, map, Some, option_map, slice_get}
use Rattle.ir_base.specs.declared.types.TypeHandle.{TypeHandle}
use Rattle.ir_program.specs.Program.{Program, TypedValue, type_at}
use Rattle.ir_program.specs.declared.handles.Ptr.{Ptr}
use Rattle.ir_program.specs.declared.handles.Operation.{Operation}
use Rattle.ir_program.specs.declared.handles.Value.{Value}
use Rattle.ir_program.specs.declared.handles.Use.{Use}

-- the values of results or arguments, in order
abbrev pub values_of : List TypedValue → List Value
values_of = map (λ (t : TypedValue). t.value)

-- their types, in order
abbrev pub types_of : List TypedValue → List TypeHandle
types_of = map (λ (t : TypedValue). t.ty)

-- these are the types of the values, in order
abbrev pub AreTypesOf : {O B : Type 0} → Program O B → List Value → List TypeHandle → Type 0
AreTypesOf c vs tys = map (type_at c) vs ≡ map Some tys

module _ {K : Type 0} where
  -- the use of x at index i of a row of operation p
  abbrev pub place_at : Ptr Operation → ℕ → K → Use K
  place_at p i x = record { user_op = p; index = i; def = x }

  -- these are the uses in a row of operation p, one at each index, in order
  abbrev pub ArePlacesOf : Ptr Operation → List K → List (Use K) → Type 0
  ArePlacesOf p row us = (i : ℕ) → slice_get us i ≡ option_map (place_at p i) (slice_get row i)
