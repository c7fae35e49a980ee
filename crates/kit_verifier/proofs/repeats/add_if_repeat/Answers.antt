use Rattle.kit_checks.specs.World.{world_of}
use Rattle.kit_verifier.specs.Sets.{texts_of}
use Rattle.kit_verifier.proofs.Repeated.{new_repeat}
use Rattle.kit_verifier.proofs.repeats.add_if_repeat.Goals as goal

pub returns-then-branch-clause-repeats : goal.returns-then-branch-clause-repeats
returns-then-branch-clause-repeats c =
    new_repeat (world_of c.args.ctx.now) c.args.ctx.now.program (texts_of c.args.names.now.keys) c.args.op c.in_ok-is_repeat.field-0 c.if-branch.true c.in_ok-is_repeat.ensures.is
    c.args.repeats.now.keys c.add_operation.new.operations.keys c.add_operation.result c.add_operation.ensures
