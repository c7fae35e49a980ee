use Rattle.std.proofs.Common.{◌≡◌, ℕ, ◌<◌, Some, slice_get, IsSome}
use Rattle.ir_program.specs.declared.handles.Ptr.{Ptr}
use Rattle.ir_program.specs.declared.handles.BasicBlock.{BasicBlock}
use Rattle.ir_program.specs.Program.{block_at}
use Rattle.ir_core.specs.declared.edits.edit.At.{At}
use Rattle.ir_core.specs.edits.Naming.{block_named}
use Rattle.ir_core.proofs.edits.name_lists.name_live_blocks.Given as goal

abbrev pub invariant-loop-name : goal.invariant-loop-name
invariant-loop-name g l = (j : ℕ) (name : At (Ptr BasicBlock)) → j < l.name-index → slice_get l.names j ≡ Some name → (y : Ptr BasicBlock) × (block_named l.made name ≡ Some y) × IsSome (block_at l.ctx.program y)
