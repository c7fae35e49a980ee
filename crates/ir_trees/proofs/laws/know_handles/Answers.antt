use Rattle.ir_trees.proofs.Named.{operations_inside, blocks_inside, operations_distinct, blocks_distinct}
use Rattle.ir_trees.proofs.laws.know_handles.Goals as goal

pub returns-clause-once : goal.returns-clause-once
returns-clause-once g c t stands = operations_distinct c.args.program.now c.args.op t stands _ c.nodes_inside-inside.ensures.order c.nodes_inside-inside.ensures.inside c.nodes_inside-inside.ensures.once

pub returns-clause-blocks_once : goal.returns-clause-blocks_once
returns-clause-blocks_once g c t stands = blocks_distinct c.args.program.now c.args.op t stands _ c.nodes_inside-inside.ensures.order c.nodes_inside-inside.ensures.inside c.nodes_inside-inside.ensures.once

pub returns-clause-inside : goal.returns-clause-inside
returns-clause-inside g c t stands = operations_inside c.args.program.now c.args.op t stands _ c.nodes_inside-inside.ensures.order c.nodes_inside-inside.ensures.inside

pub returns-clause-blocks_inside : goal.returns-clause-blocks_inside
returns-clause-blocks_inside g c t stands = blocks_inside c.args.program.now c.args.op t stands _ c.nodes_inside-inside.ensures.order c.nodes_inside-inside.ensures.inside
