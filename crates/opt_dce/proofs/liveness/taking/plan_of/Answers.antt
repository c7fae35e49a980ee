use Rattle.std.proofs.Common.{Bool, true, List, subst}
use Rattle.opt_inside.specs.Numbered.{numbers_of}
use Rattle.opt_dce.specs.liveness.Taken.{ArePaired, AreGoing, HasGoing, IsLoss, LosesSome, Picks, block_of, op_of, same}
use Rattle.opt_dce.proofs.liveness.taking.plan_of.Goals as goal

pub returns : goal.returns
returns g c = record {
  operations = subst (λ (marks : List Bool). Picks same (λ p. Unit {0}) (λ p. ArePaired c.args.inside.now.operations.keys marks p true) c.args.inside.now.operations.keys c.in_ok-dead_operations.field-0.items) c.deref.ensures.value c.in_ok-dead_operations.ensures;
  operands = subst (λ (marks : List Bool). Picks op_of (IsLoss (numbers_of c.args.inside.now) c.args.problem.now.operations marks) (LosesSome (numbers_of c.args.inside.now) c.args.problem.now.operations marks) c.args.inside.now.operations.keys c.in_ok-lost_operands.field-0.items) c.deref-2.ensures.value c.in_ok-lost_operands.ensures;
  arguments = subst (λ (marks : List Bool). Picks block_of (λ a. AreGoing c.args.program.now (numbers_of c.args.inside.now) marks a.block a.marks.items) (HasGoing c.args.program.now (numbers_of c.args.inside.now) marks) c.args.inside.now.blocks.keys c.in_ok-dead_arguments.field-0.items) c.deref-3.ensures.value c.in_ok-dead_arguments.ensures;
}
