use Rattle.kit_pass_rules.proofs.phases.CutTrees.{cut_good}
use Rattle.kit_pass_rules.proofs.cut_stays_good.Goals as goal

pub returns : goal.returns
returns c = cut_good
