use Rattle.ir_trees.proofs.SeenTrees.{seen_as, stands_as}
use Rattle.ir_trees.proofs.seen_laws.know_seen.Goals as goal

pub returns : goal.returns
returns g c op t = (seen_as c.args._program.now op t, stands_as c.args._program.now op t)
