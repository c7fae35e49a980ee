use Rattle.std.proofs.lemmas.Bool.{false≢true}
use Rattle.kit_ops.specs.declared.kinds.KitOp.TheVariants.{Module}
use Rattle.kit_checks.specs.World.{world_of}
use Rattle.kit_checks.proofs.Owners.{in_kind, in_nothing}
use Rattle.kit_checks.proofs.sites.is_in_module.Goals as goal

pub returns-in-Some : goal.returns-in-Some
returns-in-Some c =
    in_kind c.args.ctx.now.program c.args.root c.args.op (world_of c.args.ctx.now) Module c.owner_of.result c.in-Some.owner c.kind_of.result c.is_module.result c.in-Some.is c.kind_of.ensures c.is_module.ensures c.owner_of.ensures.owner

pub returns-in-None : goal.returns-in-None
returns-in-None c s at = (
  λ yes. absurd (false≢true yes),
  λ h. absurd (in_nothing c.args.ctx.now.program c.args.root c.args.op (world_of c.args.ctx.now) Module c.owner_of.result c.in-None.is c.owner_of.ensures.owner s at h),
)
