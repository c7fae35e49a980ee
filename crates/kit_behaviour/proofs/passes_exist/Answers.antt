use Rattle.kit_behaviour.proofs.PassListLemmas.{after_exists}
use Rattle.kit_behaviour.proofs.passes_exist.Goals as goal

pub returns : goal.returns
returns c = λ xs p fit. after_exists xs p fit
