use Rattle.kit_behaviour.specs.Places.{same_place}
use Rattle.kit_behaviour.proofs.ControlFlow.JoiningBehaviour.{joined_alike}
use Rattle.kit_behaviour.proofs.joining_alike.Goals as goal

pub returns : goal.returns
returns c = λ p q j n joins. joined_alike same_place p q j n joins
