use Rattle.kit_behaviour.proofs.PassListLemmas.{simplified}
use Rattle.kit_behaviour.proofs.simplify_goal.Goals as goal

pub returns : goal.returns
returns c = λ p q rules is path. simplified p q rules is path
