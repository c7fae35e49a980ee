use Rattle.kit_ruled_views.proofs.TypesAfterDecision.{typed_after_decided}
use Rattle.kit_ruled_views.proofs.trees.typed_after_decided.Goals as goal

pub returns : goal.returns
returns g c = typed_after_decided
