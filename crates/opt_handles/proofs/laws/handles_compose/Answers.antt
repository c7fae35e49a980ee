use Rattle.opt_handles.proofs.Handles.{handles_twice}
use Rattle.opt_handles.proofs.laws.handles_compose.Goals as goal

pub returns : goal.returns
returns g c old mid new op a b = handles_twice old mid new op a b
