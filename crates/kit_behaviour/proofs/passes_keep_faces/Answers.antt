use Rattle.kit_behaviour.proofs.PassListLemmas.{after_faces}
use Rattle.kit_behaviour.proofs.passes_keep_faces.Goals as goal

pub returns : goal.returns
returns c = λ xs p r rules is. after_faces xs p r rules is
