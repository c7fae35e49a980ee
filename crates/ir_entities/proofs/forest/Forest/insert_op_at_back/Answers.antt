use Rattle.ir_entities.proofs.Trees.{back_op}
use Rattle.ir_entities.proofs.forest.Forest.insert_op_at_back.Goals as goal

pub invariant_of-self : goal.invariant_of-self
invariant_of-self g c = back_op _ c.args.self.now c.self.view_is c.self.invariant c.insert_at_back.new.self c.insert_at_back.ensures.nodes c.args.block c.args.op c.requires.block c.requires.op c.requires.apart c.insert_at_back.ensures.lists
