use Rattle.kit_behaviour.proofs.Numbering.NumberingForgetsNames.{placed_renamed}
use Rattle.kit_behaviour.proofs.numbering_forgets_names.Goals as goal

pub returns : goal.returns
returns g c = λ same same' r apart f. placed_renamed same same' r apart f
