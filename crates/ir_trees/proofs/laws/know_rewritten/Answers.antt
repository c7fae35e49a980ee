use Rattle.ir_trees.proofs.Rewritten.{rewritten_tree}
use Rattle.ir_trees.proofs.laws.know_rewritten.Goals as goal

pub returns : goal.returns
returns g c op w t all = rewritten_tree c.args._old.now c.args._new.now op w all t
