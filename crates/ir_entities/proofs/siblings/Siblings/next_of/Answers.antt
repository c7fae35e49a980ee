use Rattle.ir_entities.proofs.Walks.{in_nodes, forward_one}
use Rattle.ir_entities.proofs.siblings.Siblings.next_of.Goals as goal

pub next-requires : goal.next-requires
next-requires c = in_nodes c.self.inside c.args.self.now c.self.view_is c.args.list c.args.node c.requires

pub returns-clause-within : goal.returns-clause-within
returns-clause-within c = (forward_one c.self.inside c.args.self.now c.self.view_is c.args.list c.args.node c.requires c.next.result (c.next.ensures c.args.list c.requires)).0

pub returns-clause-items : goal.returns-clause-items
returns-clause-items c = (forward_one c.self.inside c.args.self.now c.self.view_is c.args.list c.args.node c.requires c.next.result (c.next.ensures c.args.list c.requires)).1
