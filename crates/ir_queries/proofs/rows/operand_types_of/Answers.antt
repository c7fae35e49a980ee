use Rattle.std.proofs.Common.{◌+◌, take, subst, sym}
use Rattle.ir_program.specs.Rows.{operands_at}
use Rattle.ir_queries.specs.Rows.{AreTypesOf}
use Rattle.ir_queries.proofs.RowSteps.{next_type}
use Rattle.ir_queries.proofs.rows.operand_types_of.Goals as goal

pub loop-i-preserved : goal.loop-i-preserved
loop-i-preserved g c = subst (AreTypesOf c.args.program.now (take (c.loop-i.i + 1) (operands_at c.args.program.now c.args.op))) (sym c.in_ok-push.ensures.items) (next_type c.args.program.now (operands_at c.args.program.now c.args.op) c.loop-i.types.items c.loop-i.i c.operand.result c.value_type.result c.loop-i.invariant c.operand.ensures.exact c.value_type.ensures)
