use Rattle.ir_entities.proofs.Writes.{are_apart}
use Rattle.ir_entities.proofs.siblings.Siblings.know_apart.Goals as goal

pub returns : goal.returns
returns c = are_apart c.self.inside c.args.self.now c.self.view_is
