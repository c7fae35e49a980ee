use Rattle.kit_behaviour.proofs.DeadCode.NoneDeadByPlace.{dce_none}
use Rattle.kit_behaviour.proofs.dce_goal.Goals as goal

pub returns : goal.returns
returns c = λ p q rules is path v h. dce_none p q rules is path v h
