use Rattle.kit_pass_rules.proofs.Simplified.SimplifyLaw as law
use Rattle.kit_pass_rules.proofs.simplify_keeps_rules.Goals as goal

pub returns : goal.returns
returns c = law.simplify_keeps_rules c.decided_in_place_stays_good.ensures c.cut_stays_good.ensures
    c.renamed_keeps_rules.ensures
