use Rattle.std.proofs.Common.{◌≡◌, ◌<◌, ℕ, Some, slice_get}
use Rattle.ir_program.specs.Lists.{IsLinkedOperation}
use Rattle.ir_program.specs.declared.handles.Ptr.{Ptr}
use Rattle.ir_program.specs.declared.handles.BasicBlock.{BasicBlock}
use Rattle.ir_program.specs.declared.handles.Use.{Use}
use Rattle.ir_scripts.proofs.edges.are_linked.Given as goal

abbrev pub invariant-loop-index : goal.invariant-loop-index
invariant-loop-index l = (k : ℕ) → k < l.index → (u : Use (Ptr BasicBlock)) → slice_get l.fn.places k ≡ Some u → IsLinkedOperation l.fn.ctx.program u.user_op
