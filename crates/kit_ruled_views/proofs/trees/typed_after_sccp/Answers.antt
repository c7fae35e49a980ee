use Rattle.kit_ruled_views.proofs.TypesAfterPropagation.{typed_after_sccp}
use Rattle.kit_ruled_views.proofs.trees.typed_after_sccp.Goals as goal

pub returns : goal.returns
returns g c = typed_after_sccp
