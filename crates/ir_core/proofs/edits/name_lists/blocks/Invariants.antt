use Rattle.std.proofs.Common.{◌≡◌, ℕ, ◌<◌, Some, length, slice_get}
use Rattle.ir_program.specs.declared.handles.Ptr.{Ptr}
use Rattle.ir_program.specs.declared.handles.BasicBlock.{BasicBlock}
use Rattle.ir_core.specs.declared.edits.edit.At.{At}
use Rattle.ir_core.specs.edits.Naming.{block_named}
use Rattle.ir_core.proofs.edits.name_lists.blocks.Given as goal

abbrev pub invariant-loop-name : goal.invariant-loop-name
invariant-loop-name g l = (length l.blocks.items ≡ l.name-index) × ((j : ℕ) (name : At (Ptr BasicBlock)) → j < l.name-index → slice_get l.names j ≡ Some name → slice_get l.blocks.items j ≡ block_named l.made name)
