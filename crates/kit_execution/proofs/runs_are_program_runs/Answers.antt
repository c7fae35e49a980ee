use Rattle.kit_execution.proofs.Programs.{program_runs}
use Rattle.kit_execution.proofs.runs_are_program_runs.Goals as goal

pub returns : goal.returns
returns c = λ s root t numbered p given path place is xs n.
    program_runs s root t numbered p given path place is xs n
