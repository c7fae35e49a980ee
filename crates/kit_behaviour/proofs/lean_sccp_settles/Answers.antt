use Rattle.kit_behaviour.proofs.Propagation.SecondPropagation.{lean_settles}
use Rattle.kit_behaviour.proofs.lean_sccp_settles.Goals as goal

pub returns : goal.returns
returns c = λ p q r rules a b. lean_settles p q r rules a b
