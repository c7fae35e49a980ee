use Rattle.kit_ruled_views.proofs.programs.ProgramsOfTrees.{program_exists}
use Rattle.kit_ruled_views.proofs.programs_exist.Goals as goal

pub returns : goal.returns
returns g c = λ same leads numbered t h. program_exists same leads numbered t h
