use Rattle.opt_trees.proofs.Best.{best_unique}
use Rattle.opt_trees.proofs.laws.one_best.Goals as goal

pub returns : goal.returns
returns g c = λ d t k l a b. best_unique d t k l a b
