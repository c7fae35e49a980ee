use Rattle.std.proofs.Common.{◌∙◌}
use Rattle.ir_entities.proofs.Writes.{prev_is}
use Rattle.ir_entities.proofs.siblings.Siblings.prev.Goals as goal

pub returns : goal.returns
returns c d h = c.get.ensures ∙ prev_is c.self.inside c.args.self.now c.self.view_is c.args.node c.index.result.now c.requires c.index.ensures d h
