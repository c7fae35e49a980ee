use Rattle.kit_ruled_views.proofs.programs.SoundFlat.{sound_flat}
use Rattle.kit_ruled_views.proofs.sound_is_flat.Goals as goal

pub returns : goal.returns
returns g c = λ leads numbered type_at t sound. sound_flat leads numbered type_at t sound
