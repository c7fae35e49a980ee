use Rattle.kit_pass_rules.proofs.phases.RenamedTrees.{renamed_good}
use Rattle.kit_pass_rules.proofs.renamed_stays_good.Goals as goal

pub returns : goal.returns
returns c = renamed_good
