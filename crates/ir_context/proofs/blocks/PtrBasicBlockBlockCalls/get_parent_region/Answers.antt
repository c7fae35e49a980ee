use Rattle.ir_context.proofs.blocks.PtrBasicBlockBlockCalls.get_parent_region.Goals as goal

pub returns-clause-parent : goal.returns-clause-parent
returns-clause-parent g c = rw (← c.ctx.view_is) c.parent_region.ensures.parent

pub returns-clause-only : goal.returns-clause-only
returns-clause-only g c = rw (← c.ctx.view_is) c.parent_region.ensures.only
