use Rattle.ir_entities.proofs.Prunes.{branch_gone, cut_live}
use Rattle.ir_entities.proofs.Takes.{region_live}
use Rattle.ir_entities.specs.declared.forest.Place.TheVariants.{Region}
use Rattle.ir_entities.proofs.forest.Forest.take_region.Goals as goal

pub returns-clause-pruned : goal.returns-clause-pruned
returns-clause-pruned g c x w ne = branch_gone c.args.self.now c.cut_region.new.self c.free_region_at-payload.new.self c.know_forest.ensures c.know_forest-2.ensures (Region c.args.region) x c.cut_region.ensures.cut c.free_region_at-payload.ensures.erased w ne

pub returns-clause-fewer : goal.returns-clause-fewer
returns-clause-fewer g c = region_live c.args.self.now c.cut_region.new.self c.free_region_at-payload.new.self c.args.region (cut_live c.args.self.now c.cut_region.new.self (Region c.args.region) c.cut_region.ensures.cut) c.free_region_at-payload.ensures.slot c.free_region_at-payload.ensures.rest
