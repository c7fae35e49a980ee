use Rattle.kit_ruled_views.proofs.OneView.{one_view}
use Rattle.kit_ruled_views.proofs.trees.views_are_one.Goals as goal

pub returns : goal.returns
returns g c = one_view
