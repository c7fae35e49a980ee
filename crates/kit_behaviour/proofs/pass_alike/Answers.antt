use Rattle.kit_behaviour.proofs.PassListLemmas.{pass_within}
use Rattle.kit_behaviour.proofs.pass_alike.Goals as goal

pub returns : goal.returns
returns c = λ x p q n rules is before after. pass_within x p q n rules is before after
