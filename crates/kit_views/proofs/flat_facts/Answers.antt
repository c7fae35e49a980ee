use Rattle.kit_views.proofs.FlatBest.{flat_best}
use Rattle.kit_views.proofs.flat_facts.Goals as goal

pub returns : goal.returns
returns g c = λ same same_block leads numbered type_at t f k sameness block_law is_flat typed best. flat_best leads numbered same sameness same_block block_law type_at t f k is_flat typed best
