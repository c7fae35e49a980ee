use Rattle.kit_ruled_views.proofs.TypesAfterCut.{typed_after_cut}
use Rattle.kit_ruled_views.proofs.trees.typed_after_cut.Goals as goal

pub returns : goal.returns
returns g c = typed_after_cut
