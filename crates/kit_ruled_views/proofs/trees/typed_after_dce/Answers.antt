use Rattle.kit_ruled_views.proofs.TypesAfterRemoval.{typed_after_dce}
use Rattle.kit_ruled_views.proofs.trees.typed_after_dce.Goals as goal

pub returns : goal.returns
returns g c = typed_after_dce
