use Rattle.kit_written_trees.proofs.SimplifyLemmas.{simplify_law}
use Rattle.kit_written_trees.proofs.simplify_stays_writable.Goals as goal

pub returns : goal.returns
returns c = simplify_law
