-- What making and taking away does to definitions.
use Rattle.std.specs.Prelude.{◌≡◌, ℕ, List, Some, None, slice_get, insert, remove}
use Rattle.ir_base.specs.declared.types.TypeHandle.{TypeHandle}
use Rattle.ir_entities.specs.Uses.{Uses, key_of, SetsKey}
use Rattle.ir_program.specs.declared.handles.Value.{Value}
use Rattle.ir_program.specs.declared.records.Definition.{Definition}

-- value v, which no place names, is defined now, and its definition stands at index k of its definer's
pub record InsertsDefinition (old new : Uses Value) (was now : List Definition) (k : ℕ) (v : Value) (ty : TypeHandle) : Type 0 where
  pub thread : ℕ
  pub fresh : key_of old thread ≡ None
  pub defined : SetsKey old new thread (Some v)
  pub places : new.places ≡ old.places
  pub inserted : now ≡ insert was k (record { number = v.number; ty = ty; thread = thread })

-- the definition at index k is gone, and its thread is out of use
pub record RemovesDefinition (old new : Uses Value) (was now : List Definition) (k : ℕ) : Type 0 where
  pub definition : Definition
  pub stood : slice_get was k ≡ Some definition
  pub gone : SetsKey old new definition.thread None
  pub places : new.places ≡ old.places
  pub removed : now ≡ remove was k
