use Rattle.opt_trees.proofs.ConstantsNamed.{sccp_goal}
use Rattle.opt_trees.proofs.laws.sccp_goal.Goals as goal

pub returns : goal.returns
returns g c = λ d w t after law tell p l best v user i a q ue known by. sccp_goal d w t after l law tell p best v user i a q ue known by
