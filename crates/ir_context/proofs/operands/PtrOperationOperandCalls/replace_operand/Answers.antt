use Rattle.std.proofs.Common.{refl}
use Rattle.ir_context.proofs.operands.PtrOperationOperandCalls.replace_operand.Goals as goal

pub returns-clause-replaced : goal.returns-clause-replaced
returns-clause-replaced g c = rw (← c.ctx.view_is) (c.replace_operand.ensures.replaced)

pub returns-clause-values : goal.returns-clause-values
returns-clause-values g c = rw (← c.ctx.view_is) (c.replace_operand.ensures.values)

pub replace_operand-requires-clause-within : goal.replace_operand-requires-clause-within
replace_operand-requires-clause-within g c = rw (← c.ctx.view_is) at c.requires.within

pub replace_operand-requires-clause-value : goal.replace_operand-requires-clause-value
replace_operand-requires-clause-value g c = rw (← c.ctx.view_is) at c.requires.value

pub returns-clause-succeeds : goal.returns-clause-succeeds
returns-clause-succeeds g c = refl
