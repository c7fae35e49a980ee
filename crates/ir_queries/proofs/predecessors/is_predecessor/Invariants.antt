use Rattle.std.proofs.Common.{◌≡◌, ℕ, ◌++◌, Some, slice_get}
use Rattle.ir_program.specs.Lists.{StandsInBlock}
use Rattle.ir_program.specs.Uses.{AreBlockUses}
use Rattle.ir_program.specs.declared.handles.BasicBlock.{BasicBlock}
use Rattle.ir_program.specs.declared.handles.Ptr.{Ptr}
use Rattle.ir_program.specs.declared.handles.Use.{Use}
use Rattle.ir_queries.proofs.predecessors.is_predecessor.Given as goal

abbrev pub invariant-loop-edge : goal.invariant-loop-edge
invariant-loop-edge g l = record {
  edges : AreBlockUses l.program l.fn.block (l.yielded ++ l.edge-iterator);
  others : (k : ℕ) (u : Use (Ptr BasicBlock)) → slice_get l.yielded k ≡ Some u → StandsInBlock l.program u.user_op l.from → ⊥;
}
