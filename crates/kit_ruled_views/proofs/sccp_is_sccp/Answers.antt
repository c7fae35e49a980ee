use Rattle.kit_ruled_views.proofs.programs.SccpOnPrograms.{sccp_on_programs}
use Rattle.kit_ruled_views.proofs.sccp_is_sccp.Goals as goal

pub returns : goal.returns
returns g c = λ told leads numbered type_at t after p sound pass is.
    sccp_on_programs told leads numbered type_at t sound after pass p is
