use Rattle.kit_ruled_views.proofs.RenamedTypes.{typed_under}
use Rattle.kit_ruled_views.proofs.trees.typed_under_names.Goals as goal

pub returns : goal.returns
returns g c = typed_under
