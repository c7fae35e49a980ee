use Rattle.ir_context.proofs.regions.PtrRegionRegionCalls.get_parent_region.Goals as goal

pub returns-clause-only : goal.returns-clause-only
returns-clause-only g c = rw (← c.ctx.view_is) c.parent_of_region.ensures.only
