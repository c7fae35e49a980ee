use Rattle.kit_checks.specs.World.{world_of}
use Rattle.kit_checks.proofs.Local.{holds_outside, holds_inside}
use Rattle.kit_checks.proofs.tests.function_holds.Goals as goal

pub returns-then-not-is_in_function : goal.returns-then-not-is_in_function
returns-then-not-is_in_function c s at =
    holds_outside (world_of c.args.ctx.now) c.args.ctx.now.program c.args.root c.args.op c.is_in_function.result c.if-not-is_in_function.true s (c.is_in_function.ensures s at)

pub returns : goal.returns
returns c s at =
    holds_inside (world_of c.args.ctx.now) c.args.ctx.now.program c.args.root c.args.op c.is_in_function.result c.is_plain_instruction.result c.if-not-is_in_function.false s (c.is_in_function.ensures s at)
    (c.is_plain_instruction.ensures s.op at.tree)
