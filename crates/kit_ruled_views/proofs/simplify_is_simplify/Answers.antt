use Rattle.kit_ruled_views.proofs.programs.SimplifyOnPrograms.{simplify_on_programs}
use Rattle.kit_ruled_views.proofs.simplify_is_simplify.Goals as goal

pub returns : goal.returns
returns g c = λ told leads numbered type_at t after p sound pass is.
    simplify_on_programs told leads numbered type_at t sound after pass p is
