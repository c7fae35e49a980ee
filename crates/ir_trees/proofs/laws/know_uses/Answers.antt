use Rattle.ir_trees.proofs.Named.{values_used, blocks_used}
use Rattle.ir_trees.proofs.laws.know_uses.Goals as goal

pub returns-clause-operands : goal.returns-clause-operands
returns-clause-operands g c t stands = values_used c.args.program.now c.args.op t stands _ c.nodes_inside-inside.ensures.order c.nodes_inside-inside.ensures.inside

pub returns-clause-successors : goal.returns-clause-successors
returns-clause-successors g c t stands = blocks_used c.args.program.now c.args.op t stands _ c.nodes_inside-inside.ensures.order c.nodes_inside-inside.ensures.inside
