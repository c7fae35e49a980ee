use Rattle.std.proofs.Common.{◌∙◌}
use Rattle.ir_entities.proofs.Writes.{next_is}
use Rattle.ir_entities.proofs.siblings.Siblings.next.Goals as goal

pub returns : goal.returns
returns c d h = c.get.ensures ∙ next_is c.self.inside c.args.self.now c.self.view_is c.args.node c.index.result.now c.requires c.index.ensures d h
