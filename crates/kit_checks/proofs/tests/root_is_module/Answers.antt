use Rattle.std.proofs.Common.{◌∙◌, sym}
use Rattle.kit_checks.specs.World.{world_of}
use Rattle.kit_checks.proofs.Handles.{same_yes, not_same}
use Rattle.kit_checks.proofs.Owners.{at_root}
use Rattle.kit_checks.proofs.Local.{not_root}
use Rattle.kit_checks.proofs.tests.root_is_module.Goals as goal

pub returns-then-eq : goal.returns-then-eq
returns-then-eq c s at =
    let kind = c.kind_of.ensures s.op at.tree in
    let none = at_root c.args.ctx.now.program c.args.root c.args.op (same_yes c.args.op c.args.root c.eq.result c.eq.ensures c.if-eq.true) s.around at.around in (
      λ h around. kind ∙ c.is_module.ensures.0 h,
      λ h. c.is_module.ensures.1 (sym kind ∙ h none),
    )

pub returns : goal.returns
returns c = not_root (world_of c.args.ctx.now) c.args.ctx.now.program c.args.root c.args.op (not_same c.args.op c.args.root c.eq.result c.eq.ensures c.if-eq.false)
