use Rattle.builtin_ops.proofs.BuildingLemmas.{no_region_inside}
use Rattle.builtin_ops.proofs.building.put_in.Goals as goal

pub insert_at_back-requires-clause-apart : goal.insert_at_back-requires-clause-apart
insert_at_back-requires-clause-apart g c = no_region_inside c.args.ctx.now.program c.args.block c.requires.empty c.get_region-region.result
