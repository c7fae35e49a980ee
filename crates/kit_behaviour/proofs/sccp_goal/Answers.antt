use Rattle.kit_behaviour.proofs.Propagation.FactsExist.{sccp_known}
use Rattle.kit_behaviour.proofs.sccp_goal.Goals as goal

pub returns : goal.returns
returns c = λ want wants p q rules is path. sccp_known want wants p q rules is path
