use Rattle.kit_written_trees.proofs.DceLemmas.{dce_law}
use Rattle.kit_written_trees.proofs.dce_stays_writable.Goals as goal

pub returns : goal.returns
returns c = dce_law
