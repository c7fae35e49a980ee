use Rattle.opt_simplify.proofs.RemovedErased.{decided_by}
use Rattle.opt_simplify.proofs.remove_blocks.know_inside.Goals as goal

pub returns : goal.returns
returns g c = decided_by c.args.program.now c.args.block _ c.nodes_inside-inside.ensures.inside
