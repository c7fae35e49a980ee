use Rattle.ir_entities.proofs.Trees.{fewer_blocks}
use Rattle.ir_entities.proofs.forest.Forest.unlink_block.Goals as goal

pub invariant_of-self : goal.invariant_of-self
invariant_of-self g c = fewer_blocks _ c.args.self.now c.self.view_is c.self.invariant c.unlink.new.self c.unlink.ensures.nodes c.args.block.slot c.unlink.ensures.lists
