use Rattle.kit_views.proofs.JoinedTree.{chains_merged}
use Rattle.kit_views.proofs.flat_merged.Goals as goal

pub returns : goal.returns
returns g c = λ same leads numbered t after f sameness is_flat good_ends all_reached joined. chains_merged same leads
    numbered t after f sameness is_flat good_ends all_reached joined
