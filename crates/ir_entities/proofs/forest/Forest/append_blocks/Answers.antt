use Rattle.ir_entities.proofs.Placing.{behind_block}
use Rattle.ir_entities.proofs.forest.Forest.append_blocks.Goals as goal

pub invariant_of-self : goal.invariant_of-self
invariant_of-self g c = behind_block _ c.args.self.now c.self.view_is c.self.invariant c.append.new.self c.append.ensures.nodes c.args.donee c.args.donor c.requires.donee c.requires.donor c.requires.differ c.requires.apart c.append.ensures.lists
