use Rattle.ir_entities.proofs.Trees.{fewer_ops}
use Rattle.ir_entities.proofs.Takes.{op_cut}
use Rattle.ir_entities.proofs.forest.Forest.cut_op.Goals as goal

pub invariant_of-self : goal.invariant_of-self
invariant_of-self g c = fewer_ops _ c.args.self.now c.self.view_is c.self.invariant c.unlink.new.self c.unlink.ensures.nodes c.args.op c.unlink.ensures.lists

pub returns-clause-cut : goal.returns-clause-cut
returns-clause-cut g c = rw (← c.self.view_is) (op_cut _ c.args.op c.unlink.new.self c.unlink.ensures.lists c.unlink.ensures.one)
