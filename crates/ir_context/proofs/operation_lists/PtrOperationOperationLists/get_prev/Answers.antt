use Rattle.ir_context.proofs.operation_lists.PtrOperationOperationLists.get_prev.Goals as goal

pub returns-clause-unlinked : goal.returns-clause-unlinked
returns-clause-unlinked g c = rw (← c.ctx.view_is) (c.previous_operation.ensures.unlinked)

pub previous_operation-requires : goal.previous_operation-requires
previous_operation-requires g c = rw (← c.ctx.view_is) at c.requires

pub returns-clause-previous : goal.returns-clause-previous
returns-clause-previous g c = rw (← c.ctx.view_is) (c.previous_operation.ensures.previous)

pub returns-clause-first : goal.returns-clause-first
returns-clause-first g c = rw (← c.ctx.view_is) (c.previous_operation.ensures.first)

pub returns-clause-live : goal.returns-clause-live
returns-clause-live g c = rw (← c.ctx.view_is) (c.previous_operation.ensures.live)
