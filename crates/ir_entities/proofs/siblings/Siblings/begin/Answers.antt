use Rattle.ir_entities.proofs.Walks.{within_first, all_forward}
use Rattle.ir_entities.proofs.siblings.Siblings.begin.Goals as goal

pub returns-clause-within : goal.returns-clause-within
returns-clause-within c = within_first c.self.inside c.args.self.now c.self.view_is c.args.list c.head.result c.head.ensures.first

pub returns-clause-items : goal.returns-clause-items
returns-clause-items c = all_forward c.self.inside c.args.self.now c.self.view_is c.args.list c.requires c.head.result c.head.ensures.first
