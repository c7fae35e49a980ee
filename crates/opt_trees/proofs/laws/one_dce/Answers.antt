use Rattle.opt_trees.proofs.One.{dce_unique}
use Rattle.opt_trees.proofs.laws.one_dce.Goals as goal

pub returns : goal.returns
returns g c = λ d w t a b x y. dce_unique d w t a b x y
