-- Whether a use stands where one of several does.
use Rattle.std.specs.Prelude.{◌≡◌, ℕ, Bool, eqb, ◌&&◌, List, Some, slice_get}
use Rattle.std.specs.List.{list_any}
use Rattle.ir_arena.specs.Arena.{same}
use Rattle.ir_program.specs.Uses.{IsUseIn}
use Rattle.ir_program.specs.declared.handles.Ptr.{Ptr}
use Rattle.ir_program.specs.declared.handles.Operation.{Operation}
use Rattle.ir_program.specs.declared.handles.Use.{Use}

module _ {K : Type 0} where
  -- both stand at the same index of the same operation
  abbrev pub same_place : Use K → Use K → Bool
  same_place u w = same u.user_op.key w.user_op.key && eqb u.index w.index

  -- one of these uses stands where u does
  abbrev pub is_among : List (Use K) → Use K → Bool
  is_among us u = list_any (same_place u) us

  -- in a row of each operation: each of these uses is there
  abbrev pub AreUseIn : (Ptr Operation → List K) → List (Use K) → Type 0
  AreUseIn rows us = (k : ℕ) (u : Use K) → slice_get us k ≡ Some u → IsUseIn rows u
