use Rattle.kit_pass_rules.proofs.phases.DecidedTrees.{decided_in_place_good}
use Rattle.kit_pass_rules.proofs.decided_in_place_stays_good.Goals as goal

pub returns : goal.returns
returns c = decided_in_place_good
