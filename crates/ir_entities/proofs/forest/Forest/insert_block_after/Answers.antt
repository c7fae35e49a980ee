use Rattle.ir_entities.proofs.Trees.{later_block}
use Rattle.ir_entities.proofs.forest.Forest.insert_block_after.Goals as goal

pub invariant_of-self : goal.invariant_of-self
invariant_of-self g c = later_block _ c.args.self.now c.self.view_is c.self.invariant c.insert_after.new.self c.insert_after.ensures.nodes c.args.mark c.args.block c.requires.block c.requires.apart c.insert_after.ensures.lists
