use Rattle.kit_behaviour.proofs.PassListLemmas.{after_one}
use Rattle.kit_behaviour.proofs.one_result.Goals as goal

pub returns : goal.returns
returns c = λ xs p r s fit a b. after_one xs p r s fit a b
