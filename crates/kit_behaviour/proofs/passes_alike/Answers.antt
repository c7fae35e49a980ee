use Rattle.kit_behaviour.proofs.PassListLemmas.{after_alike}
use Rattle.kit_behaviour.proofs.passes_alike.Goals as goal

pub returns : goal.returns
returns c = λ xs p r fit is. after_alike xs p r fit is
