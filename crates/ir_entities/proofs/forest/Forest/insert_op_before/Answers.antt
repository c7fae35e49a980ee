use Rattle.ir_entities.proofs.Placing.{before_op}
use Rattle.ir_entities.proofs.forest.Forest.insert_op_before.Goals as goal

pub invariant_of-self : goal.invariant_of-self
invariant_of-self g c = before_op _ c.args.self.now c.self.view_is c.self.invariant c.insert_before.new.self c.insert_before.ensures.nodes c.args.mark c.args.op c.requires.op c.requires.apart c.insert_before.ensures.lists
