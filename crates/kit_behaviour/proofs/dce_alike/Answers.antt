use Rattle.kit_behaviour.proofs.DeadCode.RemovalScopes.{dce_is_alike}
use Rattle.kit_behaviour.proofs.dce_alike.Goals as goal

pub returns : goal.returns
returns c = λ p q n rules is below. dce_is_alike p q n rules is below
