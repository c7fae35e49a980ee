use Rattle.kit_pass_rules.proofs.SccpLaw.{sccp_law}
use Rattle.kit_pass_rules.proofs.sccp_keeps_rules.Goals as goal

pub returns : goal.returns
returns c = sccp_law
