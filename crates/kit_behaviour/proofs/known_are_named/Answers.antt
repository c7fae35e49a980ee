use Rattle.kit_behaviour.proofs.Propagation.AllKnownInserted.{known_named}
use Rattle.kit_behaviour.proofs.known_are_named.Goals as goal

pub returns : goal.returns
returns c = λ want f k rules best b r. known_named want f k rules best b r
