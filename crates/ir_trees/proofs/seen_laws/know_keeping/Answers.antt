use Rattle.ir_trees.proofs.SeenTrees.{kept_tree}
use Rattle.ir_trees.proofs.seen_laws.know_keeping.Goals as goal

pub returns-clause-tree : goal.returns-clause-tree
returns-clause-tree g c op t keeps = kept_tree c.args._old.now c.args._new.now keeps op t
