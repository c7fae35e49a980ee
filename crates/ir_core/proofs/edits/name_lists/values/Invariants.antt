use Rattle.std.proofs.Common.{◌≡◌, ℕ, ◌<◌, Some, length, slice_get}
use Rattle.ir_core.specs.declared.edits.edit.ValueAt.{ValueAt}
use Rattle.ir_core.specs.edits.Naming.{value_named}
use Rattle.ir_core.proofs.edits.name_lists.values.Given as goal

abbrev pub invariant-loop-name : goal.invariant-loop-name
invariant-loop-name g l = (length l.values.items ≡ l.name-index) × ((j : ℕ) (name : ValueAt) → j < l.name-index → slice_get l.names j ≡ Some name → slice_get l.values.items j ≡ value_named l.ctx.program l.made name)
