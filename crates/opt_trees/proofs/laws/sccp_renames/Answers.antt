use Rattle.opt_trees.proofs.SccpRenamed.{sccp_renamed}
use Rattle.opt_trees.proofs.ConstantsNamed.{constants_renamed}
use Rattle.opt_trees.proofs.laws.sccp_renames.Goals as goal

pub returns : goal.returns
returns g c = record {
  result = λ d r t a w w' says x. sccp_renamed d r w w' says t a x;
  goal = λ d r t k best names l more v user i a c ue known by. constants_renamed d r t k best names l more v user i a c ue known by;
}
