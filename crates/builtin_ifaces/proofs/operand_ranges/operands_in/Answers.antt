use Rattle.std.proofs.Common.{◌∙◌}
use Rattle.ir_program.specs.Rows.{operands_at}
use Rattle.builtin_ifaces.proofs.RangeLemmas.{next_in_range}
use Rattle.builtin_ifaces.proofs.operand_ranges.operands_in.Goals as goal

pub loop-i-preserved : goal.loop-i-preserved
loop-i-preserved g c = c.in_ok-push.ensures.items ∙ next_in_range (operands_at c.args.ctx.now.program c.args.op) c.loop-i.values.items c.args.start c.loop-i.i c.get_operand.result c.loop-i.auto.i c.loop-i.invariant c.get_operand.ensures.exact
