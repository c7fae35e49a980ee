use Rattle.ir_context.proofs.operands.PtrOperationOperandCalls.insert_operand.Goals as goal

pub returns-clause-inserted : goal.returns-clause-inserted
returns-clause-inserted g c = rw (← c.ctx.view_is) (c.insert_operand.ensures.inserted)

pub returns-clause-err : goal.returns-clause-err
returns-clause-err g c = rw (← c.ctx.view_is) (c.insert_operand.ensures.err)

pub returns-clause-values : goal.returns-clause-values
returns-clause-values g c = rw (← c.ctx.view_is) (c.insert_operand.ensures.values)

pub insert_operand-requires-clause-operation : goal.insert_operand-requires-clause-operation
insert_operand-requires-clause-operation g c = rw (← c.ctx.view_is) at c.requires.operation

pub insert_operand-requires-clause-within : goal.insert_operand-requires-clause-within
insert_operand-requires-clause-within g c = rw (← c.ctx.view_is) at c.requires.within

pub insert_operand-requires-clause-value : goal.insert_operand-requires-clause-value
insert_operand-requires-clause-value g c = rw (← c.ctx.view_is) at c.requires.value
