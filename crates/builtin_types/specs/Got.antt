-- What types of a context are.
use Rattle.std.specs.Prelude.{Option, option_and_then}
use Rattle.ir_base.specs.declared.types.TypeHandle.{TypeHandle}
use Rattle.ir_types.specs.Interned.{key_at}
use Rattle.ir_types.specs.Views.{TypesView}

-- what the type of a handle holds, None where it holds something else or the handle leads to no type; `held` says it of each key
abbrev pub held_at : {K B S X : Type 0} → (K → Option X) → TypesView K B S → TypeHandle → Option X
held_at held types ty = option_and_then held (key_at types ty)
