use Rattle.kit_behaviour.proofs.ControlFlow.NamedExists.{as_old_all}
use Rattle.kit_behaviour.proofs.ControlFlow.SimplifyBehaviour.{simplify_is_alike}
use Rattle.kit_behaviour.proofs.simplify_alike.Goals as goal

pub returns : goal.returns
returns c = λ p q n rules is few. simplify_is_alike p q n rules (as_old_all p q rules is) few
