use Rattle.ir_entities.proofs.Trees.{fewer_regions}
use Rattle.ir_entities.proofs.forest.Forest.unlink_region.Goals as goal

pub invariant_of-self : goal.invariant_of-self
invariant_of-self g c = fewer_regions _ c.args.self.now c.self.view_is c.self.invariant c.unlink.new.self c.unlink.ensures.nodes c.args.region.slot c.unlink.ensures.lists
