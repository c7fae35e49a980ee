-- Where a path of names leads, and what is at that place.
use Rattle.std.specs.Prelude.{◌≡◌, ℕ, ◌<◌, ◌-◌, IsSome, List, map, Option, Some, length, slice_get}
use Rattle.ir_names.specs.declared.identifier.Identifier.{Identifier}
use Rattle.ir_names.specs.Identifier.{text_of}
use Rattle.ir_program.specs.Program.{operation_at}
use Rattle.ir_program.specs.declared.handles.Ptr.{Ptr}
use Rattle.ir_program.specs.declared.handles.Operation.{Operation}
use Rattle.kit.specs.Context.{KitContext, KitProgram}
use Rattle.kit_places.specs.declared.places.Place.{Place}
use Rattle.kit_places.specs.Store.{function_named, locate}

-- where a path of names leads from a module
abbrev pub place_of : KitContext → Ptr Operation → List Identifier → Option Place
place_of s root path = locate s.program root (map text_of path)

-- the place is that of a function of this name, and it is there
pub record IsPlaceOfFunction (c : KitProgram) (name : List ℕ) (p : Place) : Type 0 where
  pub within_live : IsSome (operation_at c p.within)
  pub function_live : IsSome (operation_at c p.function)
  pub named : function_named c p.within name ≡ Some p.function

-- so it is for the last name of a path
pub record IsLocated (c : KitProgram) (path : List Identifier) (p : Place) : Type 0 where
  pub nonempty : 0 < length path
  pub within_live : IsSome (operation_at c p.within)
  pub function_live : IsSome (operation_at c p.function)
  pub place : (x : Identifier) → slice_get path (length path - 1) ≡ Some x → IsPlaceOfFunction c (text_of x) p
