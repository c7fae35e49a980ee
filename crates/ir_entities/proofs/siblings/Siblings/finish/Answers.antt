use Rattle.ir_entities.proofs.Walks.{within_last, all_back}
use Rattle.ir_entities.proofs.siblings.Siblings.finish.Goals as goal

pub returns-clause-within : goal.returns-clause-within
returns-clause-within c = within_last c.self.inside c.args.self.now c.self.view_is c.args.list c.tail.result c.tail.ensures

pub returns-clause-items : goal.returns-clause-items
returns-clause-items c = all_back c.self.inside c.args.self.now c.self.view_is c.args.list c.requires c.tail.result c.tail.ensures
