use Rattle.std.proofs.Common.{◌∙◌, ap}
use Rattle.kit_checks.specs.Words.{is_branch}
use Rattle.kit_checks.specs.World.{world_of}
use Rattle.kit_checks.proofs.Handed.{hand_on_all, hand_on_segments, hand_on_nothing, not_branch}
use Rattle.kit_checks.proofs.edges.edges_hand_on.Goals as goal

pub returns-in-Br : goal.returns-in-Br
returns-in-Br c u s = hand_on_all (world_of c.args.ctx.now) c.args.ctx.now.program c.args.op u s c.all_fit.result (c.kind_of.ensures u s ∙ c.in-Br.is) c.all_fit.ensures

pub returns-in-CondBr : goal.returns-in-CondBr
returns-in-CondBr c u s = hand_on_segments (world_of c.args.ctx.now) c.args.ctx.now.program c.args.op u s c.segments_fit.result c.sizes_of.result.now (c.kind_of.ensures u s ∙ c.in-CondBr.is) (c.sizes_of.ensures u s) c.segments_fit.ensures

pub returns-in_default : goal.returns-in_default
returns-in_default c u s =
    hand_on_nothing (world_of c.args.ctx.now) c.args.ctx.now.program c.args.op u s
    (ap is_branch (c.kind_of.ensures u s) ∙ not_branch (world_of c.args.ctx.now) c.args.ctx.now.program c.args.op u s c.kind_of.result c.in_default.not-Br c.in_default.not-CondBr)
