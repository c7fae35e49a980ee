use Rattle.opt_handles.proofs.Handles.{fresh_handles}
use Rattle.opt_handles.proofs.laws.new_handles_are_fresh.Goals as goal

pub returns : goal.returns
returns g c old new op keeps e live was_not gone = fresh_handles old new op keeps e live gone
