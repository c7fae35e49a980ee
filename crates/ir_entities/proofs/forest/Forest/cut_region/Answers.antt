use Rattle.ir_entities.proofs.Trees.{fewer_regions}
use Rattle.ir_entities.proofs.Takes.{region_cut}
use Rattle.ir_entities.proofs.forest.Forest.cut_region.Goals as goal

pub invariant_of-self : goal.invariant_of-self
invariant_of-self g c = fewer_regions _ c.args.self.now c.self.view_is c.self.invariant c.unlink.new.self c.unlink.ensures.nodes c.args.region c.unlink.ensures.lists

pub returns-clause-cut : goal.returns-clause-cut
returns-clause-cut g c = rw (← c.self.view_is) (region_cut _ c.args.region c.unlink.new.self c.unlink.ensures.lists c.unlink.ensures.one)
