use Rattle.ir_context.proofs.operations.PtrOperationOperationCalls.get_parent_region.Goals as goal

pub returns-clause-only : goal.returns-clause-only
returns-clause-only g c = rw (← c.ctx.view_is) c.region_of_operation.ensures.only
