use Rattle.kit_behaviour.proofs.Numbering.NumberingStays.{numbering_stays}
use Rattle.kit_behaviour.proofs.numbering_stays.Goals as goal

pub returns : goal.returns
returns c = λ f rules. numbering_stays f rules
