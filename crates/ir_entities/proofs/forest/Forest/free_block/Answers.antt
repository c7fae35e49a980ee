use Rattle.ir_entities.proofs.Made.{blocks_freed}
use Rattle.ir_entities.proofs.forest.Forest.free_block.Goals as goal

pub invariant_of-self : goal.invariant_of-self
invariant_of-self g c = blocks_freed _ c.args.self.now c.self.view_is c.erase.new.self c.args.block.slot c.self.invariant c.erase.ensures.slot c.requires.root c.requires.bare
