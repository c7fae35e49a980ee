use Rattle.kit_ruled_views.proofs.programs.DceOnPrograms.{dce_on_programs}
use Rattle.kit_ruled_views.proofs.dce_is_dce.Goals as goal

pub returns : goal.returns
returns g c = λ told leads numbered type_at t after p sound pass is. dce_on_programs told leads numbered type_at t
    sound after pass p is
