use Rattle.kit_pass_rules.proofs.phases.DecidedTrees.{decided_keeps}
use Rattle.kit_pass_rules.proofs.decided_keeps_rules.Goals as goal

pub returns : goal.returns
returns c = decided_keeps
