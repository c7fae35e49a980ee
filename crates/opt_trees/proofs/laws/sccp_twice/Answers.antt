use Rattle.opt_trees.proofs.ConstantsSettled.{sccp_settles}
use Rattle.opt_trees.proofs.laws.sccp_twice.Goals as goal

pub returns : goal.returns
returns g c = λ d w z t after l law p pins best v a gets. sccp_settles d w z t after l law p pins best v a gets
