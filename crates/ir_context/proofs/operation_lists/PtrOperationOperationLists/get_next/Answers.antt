use Rattle.ir_context.proofs.operation_lists.PtrOperationOperationLists.get_next.Goals as goal

pub returns-clause-next : goal.returns-clause-next
returns-clause-next g c = rw (← c.ctx.view_is) (c.next_operation.ensures.next)

pub returns-clause-unlinked : goal.returns-clause-unlinked
returns-clause-unlinked g c = rw (← c.ctx.view_is) (c.next_operation.ensures.unlinked)

pub returns-clause-live : goal.returns-clause-live
returns-clause-live g c = rw (← c.ctx.view_is) (c.next_operation.ensures.live)

pub next_operation-requires : goal.next_operation-requires
next_operation-requires g c = rw (← c.ctx.view_is) at c.requires
