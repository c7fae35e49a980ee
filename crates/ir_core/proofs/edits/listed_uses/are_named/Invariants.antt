use Rattle.std.proofs.Common.{◌≡◌, ℕ, ◌<◌, Some, slice_get}
use Rattle.ir_program.specs.declared.handles.Ptr.{Ptr}
use Rattle.ir_program.specs.declared.handles.Operation.{Operation}
use Rattle.ir_core.specs.declared.edits.edit.PlaceAt.{PlaceAt}
use Rattle.ir_core.specs.edits.Naming.{operation_named}
use Rattle.ir_core.proofs.edits.listed_uses.are_named.Given as goal

abbrev pub invariant-loop-place : goal.invariant-loop-place
invariant-loop-place l = (j : ℕ) (place : PlaceAt) → j < l.place-index → slice_get l.places j ≡ Some place → (p : Ptr Operation) × (operation_named l.made place.user_op ≡ Some p) × Unit {0}
