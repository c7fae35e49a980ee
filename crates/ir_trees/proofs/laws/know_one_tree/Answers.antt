use Rattle.ir_trees.proofs.OneTree.{one_tree}
use Rattle.ir_trees.proofs.laws.know_one_tree.Goals as goal

pub returns : goal.returns
returns g c = one_tree c.args._program.now
