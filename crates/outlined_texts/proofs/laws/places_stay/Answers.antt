use Rattle.outlined_texts.proofs.Places.{places_stay_lem}
use Rattle.outlined_texts.proofs.laws.places_stay.Goals as goal

pub returns : goal.returns
returns c = places_stay_lem
