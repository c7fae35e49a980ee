use Rattle.ir_entities.proofs.Walks.{in_nodes, back_one}
use Rattle.ir_entities.proofs.siblings.Siblings.prev_of.Goals as goal

pub prev-requires : goal.prev-requires
prev-requires c = in_nodes c.self.inside c.args.self.now c.self.view_is c.args.list c.args.node c.requires

pub returns-clause-within : goal.returns-clause-within
returns-clause-within c = (back_one c.self.inside c.args.self.now c.self.view_is c.args.list c.args.node c.requires c.prev.result (c.prev.ensures c.args.list c.requires)).0

pub returns-clause-items : goal.returns-clause-items
returns-clause-items c = (back_one c.self.inside c.args.self.now c.self.view_is c.args.list c.args.node c.requires c.prev.result (c.prev.ensures c.args.list c.requires)).1
