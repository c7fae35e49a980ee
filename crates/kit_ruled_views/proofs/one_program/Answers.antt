use Rattle.kit_ruled_views.proofs.programs.ProgramsOfTrees as programs
use Rattle.kit_ruled_views.proofs.one_program.Goals as goal

pub returns : goal.returns
returns g c = λ same leads numbered t p q a b. programs.one_program same leads numbered t p q a b
