use Rattle.ir_entities.proofs.Placing.{before_block}
use Rattle.ir_entities.proofs.forest.Forest.insert_block_before.Goals as goal

pub invariant_of-self : goal.invariant_of-self
invariant_of-self g c = before_block _ c.args.self.now c.self.view_is c.self.invariant c.insert_before.new.self c.insert_before.ensures.nodes c.args.mark c.args.block c.requires.block c.requires.apart c.insert_before.ensures.lists
