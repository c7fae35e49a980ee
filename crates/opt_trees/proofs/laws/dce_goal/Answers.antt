use Rattle.opt_trees.proofs.One.{dce_none}
use Rattle.opt_trees.proofs.laws.dce_goal.Goals as goal

pub returns : goal.returns
returns g c = λ d w t after law well is x h. dce_none d law w t after well is x h
