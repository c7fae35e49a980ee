use Rattle.ir_context.proofs.operands.PtrOperationOperandCalls.remove_operand.Goals as goal

pub remove_operand-requires : goal.remove_operand-requires
remove_operand-requires g c = rw (← c.ctx.view_is) at c.requires

pub returns-clause-value : goal.returns-clause-value
returns-clause-value g c = rw (← c.ctx.view_is) (c.remove_operand.ensures.value)

pub returns-clause-removed : goal.returns-clause-removed
returns-clause-removed g c = rw (← c.ctx.view_is) (c.remove_operand.ensures.removed)

pub returns-clause-values : goal.returns-clause-values
returns-clause-values g c = rw (← c.ctx.view_is) (c.remove_operand.ensures.values)
