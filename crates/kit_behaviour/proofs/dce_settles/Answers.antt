use Rattle.kit_behaviour.proofs.DeadCode.SecondRemoval.{dce_settles}
use Rattle.kit_behaviour.proofs.dce_settles.Goals as goal

pub returns : goal.returns
returns c = λ p q r rules a b. dce_settles p q r rules a b
