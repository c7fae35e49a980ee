use Rattle.kit_views.proofs.SimplifiedTree.{simplified}
use Rattle.kit_views.proofs.flat_simplify.Goals as goal

pub returns : goal.returns
returns g c = λ same leads numbered type_at w t after f sameness is_flat typed constants ends s. simplified same leads
    numbered type_at w t after f sameness is_flat typed constants ends s
