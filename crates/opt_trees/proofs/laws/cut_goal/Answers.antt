use Rattle.opt_trees.proofs.Reached.{cut_goal}
use Rattle.opt_trees.proofs.laws.cut_goal.Goals as goal

pub returns : goal.returns
returns g c = λ d p t after local cut x h v. cut_goal d p t after cut local x h v
