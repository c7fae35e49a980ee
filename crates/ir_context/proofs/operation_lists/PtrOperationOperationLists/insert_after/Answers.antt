use Rattle.ir_context.proofs.operation_lists.PtrOperationOperationLists.insert_after.Goals as goal

pub insert_operation_after-requires-clause-unlinked : goal.insert_operation_after-requires-clause-unlinked
insert_operation_after-requires-clause-unlinked g c = rw (← c.ctx.view_is) at c.requires.unlinked

pub returns-clause-edited : goal.returns-clause-edited
returns-clause-edited g c = rw (← c.ctx.view_is) (c.insert_operation_after.ensures.edited)

pub returns-clause-values : goal.returns-clause-values
returns-clause-values g c = rw (← c.ctx.view_is) (c.insert_operation_after.ensures.values)

pub insert_operation_after-requires-clause-mark : goal.insert_operation_after-requires-clause-mark
insert_operation_after-requires-clause-mark g c = rw (← c.ctx.view_is) at c.requires.mark

pub insert_operation_after-requires-clause-op : goal.insert_operation_after-requires-clause-op
insert_operation_after-requires-clause-op g c = rw (← c.ctx.view_is) at c.requires.op

pub insert_operation_after-requires-clause-apart : goal.insert_operation_after-requires-clause-apart
insert_operation_after-requires-clause-apart g c = rw (← c.ctx.view_is) at c.requires.apart
