use Rattle.ir_entities.proofs.Trees.{back_region}
use Rattle.ir_entities.proofs.forest.Forest.insert_region_at_back.Goals as goal

pub invariant_of-self : goal.invariant_of-self
invariant_of-self g c = back_region _ c.args.self.now c.self.view_is c.self.invariant c.insert_at_back.new.self c.insert_at_back.ensures.nodes c.args.op c.args.region c.requires.op c.requires.region c.requires.apart c.insert_at_back.ensures.lists
