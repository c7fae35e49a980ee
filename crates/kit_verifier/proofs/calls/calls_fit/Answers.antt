use Rattle.kit_ops.specs.declared.kinds.KitOp.TheVariants.{Call}
use Rattle.kit_checks.specs.World.{world_of}
use Rattle.kit_checks.proofs.Combined.{asked, not_asked}
use Rattle.kit_verifier.proofs.Read.{kind_tells}
use Rattle.kit_verifier.proofs.calls.calls_fit.Goals as goal

pub returns-then-not-is_call : goal.returns-then-not-is_call
returns-then-not-is_call c s at =
    not_asked c.is_call.result c.if-not-is_call.true
    (kind_tells (world_of c.args.ctx.now) c.args.ctx.now.program c.args.op s.op at.tree c.kind_of.result Call c.is_call.result c.kind_of.ensures c.is_call.ensures)

pub returns : goal.returns
returns c s at =
    asked c.is_call.result c.calls_function.result c.if-not-is_call.false
    (kind_tells (world_of c.args.ctx.now) c.args.ctx.now.program c.args.op s.op at.tree c.kind_of.result Call c.is_call.result c.kind_of.ensures c.is_call.ensures)
    (c.calls_function.ensures s at)
