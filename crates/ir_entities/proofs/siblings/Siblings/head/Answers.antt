use Rattle.ir_entities.proofs.Writes.{first_below}
use Rattle.ir_entities.proofs.siblings.Siblings.head.Goals as goal

pub returns-clause-below : goal.returns-clause-below
returns-clause-below c = rw c.get.ensures (first_below c.self.inside c.args.self.now c.self.view_is c.args.list c.index.result.now c.requires c.index.ensures)
