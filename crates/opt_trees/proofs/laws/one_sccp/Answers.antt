use Rattle.opt_trees.proofs.SccpRenamed.{sccp_unique}
use Rattle.opt_trees.proofs.laws.one_sccp.Goals as goal

pub returns : goal.returns
returns g c = λ d w t a b x y. sccp_unique d w t a b x y
