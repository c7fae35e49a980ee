use Rattle.std.proofs.Common.{◌∙◌, ap, sym}
use Rattle.kit_checks.specs.Words.{is_terminator}
use Rattle.kit_checks.specs.World.{world_of}
use Rattle.kit_checks.proofs.Local.{ends_outside, ends_terminator, ends_other, negated}
use Rattle.kit_checks.proofs.tests.ends_well.Goals as goal

pub returns-then-not-is_in_function : goal.returns-then-not-is_in_function
returns-then-not-is_in_function c s at =
    ends_outside (world_of c.args.ctx.now) c.args.ctx.now.program c.args.root c.args.op c.is_in_function.result c.if-not-is_in_function.true s (c.is_in_function.ensures s at)

pub returns-then-is_terminator : goal.returns-then-is_terminator
returns-then-is_terminator c s at =
    ends_terminator (world_of c.args.ctx.now) c.args.ctx.now.program c.args.root c.args.op c.is_in_function.result c.is_last.result c.if-not-is_in_function.false s at (c.is_in_function.ensures s at) c.is_last.ensures
    c.is_terminator.result c.if-is_terminator.true (ap is_terminator (c.kind_of.ensures s.op at.tree) ∙ sym c.is_terminator.ensures)

pub returns : goal.returns
returns c s at =
    ends_other (world_of c.args.ctx.now) c.args.ctx.now.program c.args.root c.args.op c.is_in_function.result c.is_last-2.result c.if-not-is_in_function.false s at (c.is_in_function.ensures s at) c.is_last-2.ensures
    c.is_terminator.result _ c.if-is_terminator.false (ap is_terminator (c.kind_of.ensures s.op at.tree) ∙ sym c.is_terminator.ensures) (negated c.is_last-2.result)
