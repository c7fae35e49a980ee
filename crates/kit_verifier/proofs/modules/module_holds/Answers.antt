use Rattle.kit_checks.specs.World.{world_of}
use Rattle.kit_verifier.proofs.Held.{all_held, not_held}
use Rattle.kit_verifier.proofs.modules.module_holds.Goals as goal

pub returns-then-not-is_in_module : goal.returns-then-not-is_in_module
returns-then-not-is_in_module c s at =
    not_held (world_of c.args.ctx.now) s c.has_body_if_module.result c.is_in_module.result c.if-not-has_body_if_module.false (c.has_body_if_module.ensures s.op at.tree)
    c.if-not-is_in_module.true (c.is_in_module.ensures s at)

pub returns : goal.returns
returns c s at =
    all_held (world_of c.args.ctx.now) s c.has_body_if_module.result c.is_in_module.result c.may_be_held.result c.if-not-has_body_if_module.false (c.has_body_if_module.ensures s.op at.tree)
    c.if-not-is_in_module.false (c.is_in_module.ensures s at) (c.may_be_held.ensures s at)
