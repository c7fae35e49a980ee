use Rattle.kit_pass_rules.proofs.phases.RenamedTrees.{renamed_keeps}
use Rattle.kit_pass_rules.proofs.renamed_keeps_rules.Goals as goal

pub returns : goal.returns
returns c = renamed_keeps
