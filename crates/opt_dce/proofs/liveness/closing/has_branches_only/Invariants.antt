use Rattle.std.proofs.Common.{◌≡◌, ℕ, ◌++◌, true, Some, slice_get}
use Rattle.ir_program.specs.Program.{OperationView, operation_at}
use Rattle.ir_program.specs.Uses.{AreBlockUses}
use Rattle.ir_program.specs.declared.handles.BasicBlock.{BasicBlock}
use Rattle.ir_program.specs.declared.handles.Ptr.{Ptr}
use Rattle.ir_program.specs.declared.handles.Use.{Use}
use Rattle.opt_dce.proofs.liveness.closing.has_branches_only.Given as goal

abbrev pub invariant-loop-edge : goal.invariant-loop-edge
invariant-loop-edge g l = record {
  edges : AreBlockUses l.program l.fn.block (l.yielded ++ l.edge-iterator);
  branches : (k : ℕ) (u : Use (Ptr BasicBlock)) → slice_get l.yielded k ≡ Some u → (v : OperationView g.row.D-Operation.Denot) → operation_at l.program u.user_op ≡ Some v → g.D.Meanings.meaning.is_branch v.payload ≡ true;
}
