use Rattle.kit_pass_rules.proofs.Apart.JoinedLaw as law
use Rattle.kit_pass_rules.proofs.joined_keeps_rules.Goals as goal

pub returns : goal.returns
returns c = law.joined_keeps_rules
