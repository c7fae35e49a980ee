use Rattle.opt_trees.proofs.Simplified.{simplify_goal}
use Rattle.opt_trees.proofs.laws.simplify_goal.Goals as goal

pub returns : goal.returns
returns g c = λ d w t after orderly local last p. simplify_goal d w t after orderly local last p
