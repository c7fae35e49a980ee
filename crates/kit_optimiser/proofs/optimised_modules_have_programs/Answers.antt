use Rattle.kit_optimiser.proofs.ProgramsOfModules.{programs}
use Rattle.kit_optimiser.proofs.optimised_modules_have_programs.Goals as goal

pub returns : goal.returns
returns c = λ xs old new root t numbered held stands before made after numbers.
    programs xs old new root t numbered held stands before made after numbers
