use Rattle.std.proofs.Common.{◌≡◌, ◌++◌}
use Rattle.ir_program.specs.Preorder.{nodes_inside}
use Rattle.ir_program.specs.declared.handles.IRNode.TheVariants.{Operation as OperationNode}
use Rattle.kit_checks.specs.World.{world_of}
use Rattle.kit_verifier.specs.Repeats.{IsRepeatAt}
use Rattle.kit_verifier.proofs.Sets.{Collected}
use Rattle.kit_verifier.proofs.repeats.repeats_inside.Given as goal

-- what those that were seen give is there
abbrev pub invariant-loop-node : goal.invariant-loop-node
invariant-loop-node l = record {
  listed : l.yielded ++ l.node-iterator ≡ nodes_inside l.ctx.program (OperationNode l.fn.root);
  collected : Collected (IsRepeatAt (world_of l.ctx) l.ctx.program) l.yielded l.repeats.keys;
}
