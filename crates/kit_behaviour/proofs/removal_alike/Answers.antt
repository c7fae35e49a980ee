use Rattle.kit_behaviour.specs.Places.{same_place}
use Rattle.kit_behaviour.proofs.Numbering.PlaceEquality.{place_law}
use Rattle.kit_behaviour.proofs.DeadCode.RemovalBehaviour.{thin_alike}
use Rattle.kit_behaviour.proofs.removal_alike.Goals as goal

pub returns : goal.returns
returns c = λ p d n may few. thin_alike same_place place_law p d may n few
