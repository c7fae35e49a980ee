use Rattle.ir_context.proofs.operation_lists.PtrOperationOperationLists.unlink.Goals as goal

pub returns-clause-unlinked : goal.returns-clause-unlinked
returns-clause-unlinked g c = c.unlink_operation.ensures.unlinked

pub unlink_operation-requires : goal.unlink_operation-requires
unlink_operation-requires g c = rw (← c.ctx.view_is) at c.requires

pub returns-clause-edited : goal.returns-clause-edited
returns-clause-edited g c = rw (← c.ctx.view_is) (c.unlink_operation.ensures.edited)

pub returns-clause-inside : goal.returns-clause-inside
returns-clause-inside g c = rw (← c.ctx.view_is) (c.unlink_operation.ensures.inside)

pub returns-clause-values : goal.returns-clause-values
returns-clause-values g c = rw (← c.ctx.view_is) (c.unlink_operation.ensures.values)
