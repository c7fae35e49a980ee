use Rattle.ir_entities.proofs.Orders.{children_once}
use Rattle.ir_entities.proofs.forest.Forest.know_parents.Goals as goal

pub returns-clause-once : goal.returns-clause-once
returns-clause-once g c e = children_once _ c.args.self.now c.self.view_is c.know_members.ensures.distinct c.know_members-2.ensures.distinct c.know_members-3.ensures.distinct e
