use Rattle.ir_context.proofs.operations.PtrOperationOperationCalls.get_parent_block.Goals as goal

pub returns-clause-parent : goal.returns-clause-parent
returns-clause-parent g c = rw (← c.ctx.view_is) c.parent_block.ensures.parent

pub returns-clause-only : goal.returns-clause-only
returns-clause-only g c = rw (← c.ctx.view_is) c.parent_block.ensures.only
