use Rattle.std.proofs.Common.{◌∙◌, sym}
use Rattle.kit_checks.specs.World.{world_of}
use Rattle.kit_checks.proofs.Combined.{last_decides, not_asked}
use Rattle.kit_checks.proofs.Signed.{returns_from, returns_nowhere}
use Rattle.kit_checks.proofs.signatures.returns_fit.Goals as goal

pub returns-then-not-is_return : goal.returns-then-not-is_return
returns-then-not-is_return c s at =
    not_asked c.is_return.result c.if-not-is_return.true
    (last_decides c.is_return.result c.is_return.ensures (λ p. c.kind_of.ensures s.op at.tree ∙ p) (λ q. sym (c.kind_of.ensures s.op at.tree) ∙ q))

pub returns-in-Some : goal.returns-in-Some
returns-in-Some c s at =
    returns_from (world_of c.args.ctx.now) c.args.ctx.now.program s c.function_around.result c.in-Some.function c.returns_to.result c.in-Some.is (c.function_around.ensures.function s at)
    (c.kind_of.ensures s.op at.tree ∙ c.is_return.ensures.0 c.if-not-is_return.false) (c.returns_to.ensures s.op at.tree)

pub returns-in-None : goal.returns-in-None
returns-in-None c s at = returns_nowhere (world_of c.args.ctx.now) c.args.ctx.now.program s c.function_around.result c.in-None.is (c.function_around.ensures.function s at)
