use Rattle.kit_views.proofs.FlatPropagation.{propagated}
use Rattle.kit_views.proofs.flat_sccp.Goals as goal

pub returns : goal.returns
returns g c = λ same same_block leads numbered type_at w t after f sameness block_law is_flat typed unpinned pass.
    propagated leads numbered same sameness same_block block_law type_at w t after f is_flat typed unpinned pass
