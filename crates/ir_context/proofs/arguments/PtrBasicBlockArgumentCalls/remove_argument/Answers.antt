use Rattle.ir_context.proofs.arguments.PtrBasicBlockArgumentCalls.remove_argument.Goals as goal

pub remove_argument-requires-clause-unused : goal.remove_argument-requires-clause-unused
remove_argument-requires-clause-unused g c = rw (← c.ctx.view_is) at c.requires.unused

pub returns-clause-value : goal.returns-clause-value
returns-clause-value g c = rw (← c.ctx.view_is) (c.remove_argument.ensures.value)

pub returns-clause-removed : goal.returns-clause-removed
returns-clause-removed g c = rw (← c.ctx.view_is) (c.remove_argument.ensures.removed)

pub returns-clause-forgotten : goal.returns-clause-forgotten
returns-clause-forgotten g c = rw (← c.ctx.view_is) (c.remove_argument.ensures.forgotten)

pub returns-clause-counter : goal.returns-clause-counter
returns-clause-counter g c = rw (← c.ctx.view_is) (c.remove_argument.ensures.counter)

pub remove_argument-requires-clause-block : goal.remove_argument-requires-clause-block
remove_argument-requires-clause-block g c = rw (← c.ctx.view_is) at c.requires.block

pub remove_argument-requires-clause-within : goal.remove_argument-requires-clause-within
remove_argument-requires-clause-within g c = rw (← c.ctx.view_is) at c.requires.within
