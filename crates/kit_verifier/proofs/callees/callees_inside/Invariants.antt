use Rattle.std.proofs.Common.{◌≡◌, ◌++◌}
use Rattle.ir_program.specs.Preorder.{nodes_inside}
use Rattle.ir_program.specs.declared.handles.IRNode.TheVariants.{Operation as OperationNode}
use Rattle.kit_checks.specs.World.{world_of}
use Rattle.kit_verifier.specs.Callees.{callables_of, IsCallableAt}
use Rattle.kit_verifier.proofs.Sets.{Collected}
use Rattle.kit_verifier.proofs.callees.callees_inside.Given as goal

-- what those that were seen give is there
abbrev pub invariant-loop-node : goal.invariant-loop-node
invariant-loop-node l = record {
  listed : l.yielded ++ l.node-iterator ≡ nodes_inside l.ctx.program (OperationNode l.fn.root);
  collected : Collected (IsCallableAt (world_of l.ctx) l.ctx.program) l.yielded (callables_of l.callees.keys);
}
