-- Types of functions.
use Rattle.std.specs.Prelude.{◌≡◌, List, Bool, true, Option, option_and_then}
use Rattle.ir_base.specs.declared.types.TypeHandle.{TypeHandle}
use Rattle.ir_names.specs.declared.interfaces.TypeInterface.{TypeInterface}
use Rattle.ir_names.specs.declared.interfaces.TypeInterface.TheVariants.{FunctionType}
use Rattle.ir_types.specs.Views.{TypesView}
use Rattle.ir_types.specs.Interned.{key_at, passes}

module _ {K B S : Type 0} (types : TypesView K B S) where
  -- the type is that of a function; `has` says which interfaces a type implements
  abbrev pub IsFunctionType : (K → TypeInterface → Bool) → TypeHandle → Type 0
  IsFunctionType has ty = passes (λ key. has key FunctionType) types ty ≡ true

  -- the types of what a function of this type takes, and of what it gives back; `signature` says them of each type, None where it is no function's
  abbrev pub signature_at : (K → Option (List TypeHandle × List TypeHandle)) → TypeHandle → Option (List TypeHandle × List TypeHandle)
  signature_at signature ty = option_and_then signature (key_at types ty)
