use Rattle.kit_views.proofs.KeptTree.{unreached_cut}
use Rattle.kit_views.proofs.flat_reached.Goals as goal

pub returns : goal.returns
returns g c = λ leads numbered t after f is_flat cut. unreached_cut leads numbered t after f is_flat cut
