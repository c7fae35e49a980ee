use Rattle.kit_ruled_views.proofs.FunctionViews.{flat_view}
use Rattle.kit_ruled_views.proofs.trees.functions_are_flat.Goals as goal

pub returns : goal.returns
returns c = flat_view
