use Rattle.std.proofs.Common.{rules}
use Rattle.kit_checks.proofs.Trees.{region_count}
use Rattle.kit_checks.proofs.counts.has_regions.Goals as goal

pub returns : goal.returns
returns g c u s = let e = region_count c.args.ctx.now.program c.args.op u s in search rules
