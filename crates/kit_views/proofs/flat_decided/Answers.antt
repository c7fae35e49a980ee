use Rattle.kit_views.proofs.DecidedTree.{decided_by_own}
use Rattle.kit_views.proofs.flat_decided.Goals as goal

pub returns : goal.returns
returns g c = λ same leads numbered type_at w t f sameness is_flat typed constants. decided_by_own same leads numbered
    type_at w t f sameness is_flat typed constants
