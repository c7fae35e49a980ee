use Rattle.kit_behaviour.proofs.Numbering.RuleLemmas.{sccp_is_alike}
use Rattle.kit_behaviour.proofs.sccp_alike.Goals as goal

pub returns : goal.returns
returns c = λ want p q n rules is below. sccp_is_alike want p q n rules is below
