use Rattle.kit_ruled_views.proofs.programs.RuledSound.{ruled_sound}
use Rattle.kit_ruled_views.proofs.rules_make_sound.Goals as goal

pub returns : goal.returns
returns c = λ leads typed numbered t keeps own have. ruled_sound leads typed t keeps numbered own have
