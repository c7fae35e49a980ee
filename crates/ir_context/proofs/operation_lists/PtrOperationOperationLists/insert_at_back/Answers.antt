use Rattle.ir_context.proofs.operation_lists.PtrOperationOperationLists.insert_at_back.Goals as goal

pub insert_operation_at_back-requires-clause-unlinked : goal.insert_operation_at_back-requires-clause-unlinked
insert_operation_at_back-requires-clause-unlinked g c = rw (← c.ctx.view_is) at c.requires.unlinked
