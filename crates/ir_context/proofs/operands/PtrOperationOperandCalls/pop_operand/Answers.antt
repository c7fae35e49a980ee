use Rattle.ir_context.proofs.KnownTypes.{kept_known}
use Rattle.ir_context.proofs.operands.PtrOperationOperandCalls.pop_operand.Goals as goal

pub invariant_of-ctx : goal.invariant_of-ctx
invariant_of-ctx g c = kept_known _ c.ctx.inside.program c.pop_operand.new.self c.ctx.invariant c.pop_operand.ensures.values

pub pop_operand-requires : goal.pop_operand-requires
pop_operand-requires g c = rw (← c.ctx.view_is) at c.requires

pub returns-clause-value : goal.returns-clause-value
returns-clause-value g c = rw (← c.ctx.view_is) (c.pop_operand.ensures.value)

pub returns-clause-popped : goal.returns-clause-popped
returns-clause-popped g c = rw (← c.ctx.view_is) (c.pop_operand.ensures.popped)

pub returns-clause-none : goal.returns-clause-none
returns-clause-none g c = rw (← c.ctx.view_is) (c.pop_operand.ensures.none)

pub returns-clause-values : goal.returns-clause-values
returns-clause-values g c = rw (← c.ctx.view_is) (c.pop_operand.ensures.values)
