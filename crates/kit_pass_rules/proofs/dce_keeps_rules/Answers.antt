use Rattle.kit_pass_rules.proofs.DceLaw.{dce_law}
use Rattle.kit_pass_rules.proofs.dce_keeps_rules.Goals as goal

pub returns : goal.returns
returns c = dce_law
