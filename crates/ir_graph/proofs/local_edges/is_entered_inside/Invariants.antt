use Rattle.std.proofs.Common.{◌++◌}
use Rattle.std.specs.Prelude.{Contains}
use Rattle.ir_program.specs.Uses.{AreBlockUses}
use Rattle.ir_program.specs.declared.handles.BasicBlock.{BasicBlock}
use Rattle.ir_program.specs.declared.handles.Ptr.{Ptr}
use Rattle.ir_program.specs.declared.handles.Use.{Use}
use Rattle.ir_graph.specs.Regions.{IsOperationOf}
use Rattle.ir_graph.proofs.local_edges.is_entered_inside.Given as goal

abbrev pub invariant-loop-edge : goal.invariant-loop-edge
invariant-loop-edge g l = record {
  edges : AreBlockUses l.program l.fn.block (l.yielded ++ l.edge-iterator);
  inside : (u : Use (Ptr BasicBlock)) → Contains l.yielded u → IsOperationOf l.program l.region u.user_op;
}
