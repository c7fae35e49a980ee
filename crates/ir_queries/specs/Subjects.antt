-- What has a type.
use Rattle.std.specs.Prelude.{Option, Some}
use Rattle.ir_base.specs.declared.types.TypeHandle.{TypeHandle}
use Rattle.ir_program.specs.Program.{Program, type_at}
use Rattle.ir_program.specs.declared.handles.Value.{Value}

-- what is asked for its type: a type, which is its own, or a value
pub data Subject : Type 0 where
  OfType : TypeHandle → Subject
  OfValue : Value → Subject

-- its type, which a value has where it stands at its definer
abbrev pub type_of : {O B : Type 0} → Program O B → Subject → Option TypeHandle
type_of c (OfType ty) = Some ty
type_of c (OfValue v) = type_at c v
