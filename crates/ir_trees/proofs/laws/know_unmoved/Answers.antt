use Rattle.ir_trees.proofs.Changed.{unmoved_tree}
use Rattle.ir_trees.proofs.laws.know_unmoved.Goals as goal

pub returns : goal.returns
returns g c op t keeps = unmoved_tree c.args._old.now c.args._new.now op keeps t
