use Rattle.opt_solvers.proofs.FactsBeginning.{one_facts}
use Rattle.opt_solvers.proofs.facts.one_most_precise.Goals as goal

pub returns : goal.returns
returns g c = one_facts
