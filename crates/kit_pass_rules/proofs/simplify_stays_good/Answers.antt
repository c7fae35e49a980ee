use Rattle.kit_pass_rules.proofs.Simplified.SimplifyLaw as law
use Rattle.kit_pass_rules.proofs.simplify_stays_good.Goals as goal

pub returns : goal.returns
returns c = law.simplify_stays_good c.decided_in_place_stays_good.ensures c.cut_stays_good.ensures
    c.renamed_stays_good.ensures
