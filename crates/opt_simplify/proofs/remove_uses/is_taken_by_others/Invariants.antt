use Rattle.std.proofs.Common.{◌≡◌, ◌++◌}
use Rattle.ir_program.specs.Order.{uses_listed}
use Rattle.ir_program.specs.declared.handles.IRNode.TheVariants.{Operation as OperationNode}
use Rattle.ir_program.specs.declared.handles.Use.{Use}
use Rattle.ir_program.specs.declared.handles.Value.{Value}
use Rattle.ir_trees.specs.Searched.{Lists}
use Rattle.opt_simplify.proofs.remove_uses.is_taken_by_others.Given as goal

-- up to here each use is by one of them
abbrev pub invariant-loop-place : goal.invariant-loop-place
invariant-loop-place g l = record {
  listed : l.yielded ++ l.place-iterator ≡ uses_listed l.program l.fn.value;
  inside : (u : Use Value) → Lists l.yielded u → Lists l.nodes.keys (OperationNode u.user_op);
}
