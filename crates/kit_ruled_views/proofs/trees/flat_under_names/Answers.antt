use Rattle.kit_ruled_views.proofs.RenamedViews.{flat_under}
use Rattle.kit_ruled_views.proofs.trees.flat_under_names.Goals as goal

pub returns : goal.returns
returns g c = flat_under
