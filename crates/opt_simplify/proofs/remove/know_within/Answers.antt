use Rattle.opt_simplify.proofs.RemovedErased.{decided_within}
use Rattle.opt_simplify.proofs.remove.know_within.Goals as goal

pub returns : goal.returns
returns g c = decided_within c.args.program.now c.args.op _ c.nodes_inside-inside.ensures.inside
