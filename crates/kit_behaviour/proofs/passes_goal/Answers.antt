use Rattle.kit_behaviour.proofs.PassListLemmas.{after_goal}
use Rattle.kit_behaviour.proofs.passes_goal.Goals as goal

pub returns : goal.returns
returns c = λ xs p r fit is. after_goal xs p r fit is
