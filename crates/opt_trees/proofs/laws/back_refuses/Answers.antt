use Rattle.opt_trees.proofs.One.{comes_back}
use Rattle.opt_trees.proofs.laws.back_refuses.Goals as goal

pub returns : goal.returns
returns g c = λ d p t after o b j. comes_back d p t o after b j
