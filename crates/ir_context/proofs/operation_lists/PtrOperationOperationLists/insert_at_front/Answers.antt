use Rattle.ir_context.proofs.operation_lists.PtrOperationOperationLists.insert_at_front.Goals as goal

pub insert_operation_at_front-requires-clause-unlinked : goal.insert_operation_at_front-requires-clause-unlinked
insert_operation_at_front-requires-clause-unlinked g c = rw (← c.ctx.view_is) at c.requires.unlinked
