use Rattle.ir_context.proofs.operands.PtrOperationOperandCalls.push_operand.Goals as goal

pub returns-clause-pushed : goal.returns-clause-pushed
returns-clause-pushed g c = rw (← c.ctx.view_is) (c.push_operand.ensures.pushed)

pub returns-clause-err : goal.returns-clause-err
returns-clause-err g c = rw (← c.ctx.view_is) (c.push_operand.ensures.err)

pub returns-clause-values : goal.returns-clause-values
returns-clause-values g c = rw (← c.ctx.view_is) (c.push_operand.ensures.values)

pub push_operand-requires-clause-operation : goal.push_operand-requires-clause-operation
push_operand-requires-clause-operation g c = rw (← c.ctx.view_is) at c.requires.operation

pub push_operand-requires-clause-value : goal.push_operand-requires-clause-value
push_operand-requires-clause-value g c = rw (← c.ctx.view_is) at c.requires.value
