use Rattle.kit_checks.specs.World.{world_of}
use Rattle.kit_checks.proofs.Signed.{function_is, no_function}
use Rattle.kit_checks.proofs.signatures.function_around.Goals as goal

pub returns-then-not-is_in_function-clause-function : goal.returns-then-not-is_in_function-clause-function
returns-then-not-is_in_function-clause-function c s at = no_function (world_of c.args.ctx.now) c.args.ctx.now.program s c.is_in_function.result c.if-not-is_in_function.true (c.is_in_function.ensures s at)

pub returns-clause-function : goal.returns-clause-function
returns-clause-function c s at = function_is (world_of c.args.ctx.now) c.args.ctx.now.program s c.owner_of.result c.is_in_function.result c.if-not-is_in_function.false (c.is_in_function.ensures s at) (c.owner_of.ensures.owner s at)
