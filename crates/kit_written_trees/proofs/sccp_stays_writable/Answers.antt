use Rattle.kit_written_trees.proofs.SccpLemmas.{sccp_law}
use Rattle.kit_written_trees.proofs.sccp_stays_writable.Goals as goal

pub returns : goal.returns
returns c = sccp_law
