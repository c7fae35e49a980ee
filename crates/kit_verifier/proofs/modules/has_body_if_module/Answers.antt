use Rattle.std.proofs.Common.{◌↔◌, IsTrue, subst}
use Rattle.kit_ops.specs.declared.kinds.KitOp.TheVariants.{Module}
use Rattle.kit_checks.specs.Reading.{OfTree}
use Rattle.kit_checks.specs.Rules.{HasModuleBody}
use Rattle.kit_checks.specs.World.{world_of}
use Rattle.kit_checks.proofs.Combined.{asked}
use Rattle.kit_verifier.proofs.Read.{kind_tells}
use Rattle.kit_verifier.proofs.modules.has_body_if_module.Goals as goal

pub returns : goal.returns
returns c u s =
    asked c.is_module.result c.has_module_body.result c.if-not-is_module.false
    (kind_tells (world_of c.args.ctx.now) c.args.ctx.now.program c.args.op u s c.kind_of.result Module c.is_module.result c.kind_of.ensures c.is_module.ensures)
    (subst (λ p. OfTree p c.args.op (λ v. IsTrue c.has_module_body.result ↔ HasModuleBody v)) c.program.ensures c.has_module_body.ensures u s)
