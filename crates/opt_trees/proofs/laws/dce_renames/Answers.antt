use Rattle.opt_trees.proofs.DceRenamed.{dce_renamed}
use Rattle.opt_trees.proofs.laws.dce_renames.Goals as goal

pub returns : goal.returns
returns g c = λ d r t after w w' agree x. dce_renamed d r t w w' agree after x
