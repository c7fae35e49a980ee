use Rattle.kit_pass_rules.proofs.phases.CutTrees.{cut_keeps}
use Rattle.kit_pass_rules.proofs.cut_keeps_rules.Goals as goal

pub returns : goal.returns
returns c = cut_keeps
