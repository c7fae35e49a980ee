use Rattle.kit_behaviour.specs.Places.{same_place}
use Rattle.kit_behaviour.proofs.Numbering.PlaceEquality.{place_law}
use Rattle.kit_behaviour.proofs.ControlFlow.ForwardingBehaviour.{forwarded_alike}
use Rattle.kit_behaviour.proofs.forwarding_alike.Goals as goal

pub returns : goal.returns
returns c = λ p s start may. forwarded_alike same_place place_law p s start may
