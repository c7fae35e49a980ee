use Rattle.std.proofs.Common.{◌≡◌, ℕ, ◌<◌, Some, slice_get}
use Rattle.ir_program.specs.declared.handles.Value.{Value}
use Rattle.ir_program.specs.Program.{IsLiveValue}
use Rattle.ir_core.specs.declared.edits.edit.ValueAt.{ValueAt}
use Rattle.ir_core.specs.edits.Naming.{value_named}
use Rattle.ir_core.proofs.edits.name_lists.name_live_values.Given as goal

abbrev pub invariant-loop-name : goal.invariant-loop-name
invariant-loop-name g l = (j : ℕ) (name : ValueAt) → j < l.name-index → slice_get l.names j ≡ Some name → (y : Value) × (value_named l.ctx.program l.made name ≡ Some y) × IsLiveValue l.ctx.program y
