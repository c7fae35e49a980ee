use Rattle.ir_context.proofs.arguments.PtrBasicBlockArgumentCalls.pop_argument.Goals as goal

pub pop_argument-requires-clause-unused : goal.pop_argument-requires-clause-unused
pop_argument-requires-clause-unused g c = rw (← c.ctx.view_is) at c.requires.unused

pub returns-clause-value : goal.returns-clause-value
returns-clause-value g c = rw (← c.ctx.view_is) (c.pop_argument.ensures.value)

pub returns-clause-popped : goal.returns-clause-popped
returns-clause-popped g c = rw (← c.ctx.view_is) (c.pop_argument.ensures.popped)

pub returns-clause-forgotten : goal.returns-clause-forgotten
returns-clause-forgotten g c = rw (← c.ctx.view_is) (c.pop_argument.ensures.forgotten)

pub returns-clause-none : goal.returns-clause-none
returns-clause-none g c = rw (← c.ctx.view_is) (c.pop_argument.ensures.none)

pub returns-clause-counter : goal.returns-clause-counter
returns-clause-counter g c = rw (← c.ctx.view_is) (c.pop_argument.ensures.counter)

pub pop_argument-requires-clause-block : goal.pop_argument-requires-clause-block
pop_argument-requires-clause-block g c = rw (← c.ctx.view_is) at c.requires.block
