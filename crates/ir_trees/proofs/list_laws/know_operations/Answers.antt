use Rattle.ir_trees.proofs.ListGrown.{operations_grown}
use Rattle.ir_trees.proofs.list_laws.know_operations.Goals as goal

pub returns : goal.returns
returns g c = operations_grown c.args.program.now c.args.block _ c.nodes_inside-inside.ensures.order c.nodes_inside-inside.ensures.inside.live
