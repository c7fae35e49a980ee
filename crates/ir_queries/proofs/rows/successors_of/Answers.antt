use Rattle.std.proofs.Common.{◌∙◌}
use Rattle.ir_program.specs.Rows.{successors_at}
use Rattle.ir_queries.proofs.RowSteps.{next_item}
use Rattle.ir_queries.proofs.rows.successors_of.Goals as goal

pub loop-i-preserved : goal.loop-i-preserved
loop-i-preserved g c = c.in_ok-push.ensures.items ∙ next_item (successors_at c.args.program.now c.args.op) c.loop-i.successors.items c.loop-i.i c.successor.result c.loop-i.invariant c.successor.ensures.exact
