use Rattle.std.proofs.Common.{◌≡◌, ℕ, ◌++◌, Some, slice_get}
use Rattle.ir_program.specs.Lists.{StandsInside}
use Rattle.ir_program.specs.Uses.{AreUsesOf}
use Rattle.ir_program.specs.declared.handles.IRNode.TheVariants.{Operation as OperationNode}
use Rattle.ir_program.specs.declared.handles.Use.{Use}
use Rattle.ir_program.specs.declared.handles.Value.{Value}
use Rattle.opt_dce.proofs.liveness.keeping.is_pinned.Given as goal

abbrev pub invariant-loop-place : goal.invariant-loop-place
invariant-loop-place g l = record {
  uses : AreUsesOf l.program l.fn.value (l.yielded ++ l.place-iterator);
  inside : (k : ℕ) (u : Use Value) → slice_get l.yielded k ≡ Some u → StandsInside l.program (OperationNode l.op) (OperationNode u.user_op);
}
