use Rattle.kit_behaviour.proofs.FiniteLemmas.{finite_fit}
use Rattle.kit_behaviour.proofs.finite_is_fit.Goals as goal

pub returns : goal.returns
returns c = λ p rules finite. finite_fit p rules finite
