use Rattle.kit_ruled_views.proofs.HandleSameness.{values_apart, blocks_apart}
use Rattle.kit_ruled_views.proofs.trees.handles_are_told_apart.Goals as goal

pub returns-clause-values : goal.returns-clause-values
returns-clause-values c = values_apart

pub returns-clause-blocks : goal.returns-clause-blocks
returns-clause-blocks c = blocks_apart
