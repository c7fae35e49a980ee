use Rattle.ir_trees.proofs.RenamedRewrites.{changed_renamed, rewritten_renamed}
use Rattle.ir_trees.proofs.renaming_laws.know_rewritten_renamed.Goals as goal

pub returns-clause-changed : goal.returns-clause-changed
returns-clause-changed g c m f h f' h' t alike = changed_renamed m f h f' h' t alike

pub returns-clause-rewritten : goal.returns-clause-rewritten
returns-clause-rewritten g c m w w' t alike = rewritten_renamed m w w' t alike
