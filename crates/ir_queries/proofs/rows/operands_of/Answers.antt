use Rattle.std.proofs.Common.{◌∙◌}
use Rattle.ir_program.specs.Rows.{operands_at}
use Rattle.ir_queries.proofs.RowSteps.{next_item}
use Rattle.ir_queries.proofs.rows.operands_of.Goals as goal

pub loop-i-preserved : goal.loop-i-preserved
loop-i-preserved g c = c.in_ok-push.ensures.items ∙ next_item (operands_at c.args.program.now c.args.op) c.loop-i.operands.items c.loop-i.i c.operand.result c.loop-i.invariant c.operand.ensures.exact
