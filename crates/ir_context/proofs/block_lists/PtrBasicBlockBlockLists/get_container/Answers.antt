use Rattle.ir_context.proofs.block_lists.PtrBasicBlockBlockLists.get_container.Goals as goal

pub returns-clause-container : goal.returns-clause-container
returns-clause-container g c = rw (← c.ctx.view_is) c.parent_region.ensures.parent

pub returns-clause-only : goal.returns-clause-only
returns-clause-only g c = rw (← c.ctx.view_is) c.parent_region.ensures.only
