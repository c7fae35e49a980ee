use Rattle.kit_execution.proofs.Programs.{path_meets}
use Rattle.kit_execution.proofs.paths_meet.Goals as goal

pub returns : goal.returns
returns c = λ s root t numbered p given path. path_meets s root t numbered p given path
