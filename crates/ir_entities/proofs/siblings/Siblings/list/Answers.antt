use Rattle.ir_entities.proofs.Writes.{not_linked}
use Rattle.ir_entities.proofs.siblings.Siblings.list.Goals as goal

pub returns-clause-unlinked : goal.returns-clause-unlinked
returns-clause-unlinked c none = not_linked c.self.inside c.args.self.now c.self.view_is c.args.node c.index.result.now c.requires c.index.ensures (rw (← c.get.ensures) none)
