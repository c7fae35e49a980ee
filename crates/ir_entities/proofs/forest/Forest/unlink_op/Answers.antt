use Rattle.ir_entities.proofs.Trees.{fewer_ops}
use Rattle.ir_entities.proofs.forest.Forest.unlink_op.Goals as goal

pub invariant_of-self : goal.invariant_of-self
invariant_of-self g c = fewer_ops _ c.args.self.now c.self.view_is c.self.invariant c.unlink.new.self c.unlink.ensures.nodes c.args.op.slot c.unlink.ensures.lists
