use Rattle.mark_places.proofs.Rising.{rising}
use Rattle.mark_places.proofs.laws.operations_end_apart.Goals as goal

pub returns : goal.returns
returns c = rising
