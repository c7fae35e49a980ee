use Rattle.ir_context.proofs.operation_lists.PtrOperationOperationLists.get_container.Goals as goal

pub returns-clause-container : goal.returns-clause-container
returns-clause-container g c = rw (← c.ctx.view_is) c.parent_block.ensures.parent

pub returns-clause-only : goal.returns-clause-only
returns-clause-only g c = rw (← c.ctx.view_is) c.parent_block.ensures.only
