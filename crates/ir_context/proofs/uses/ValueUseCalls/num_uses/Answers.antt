use Rattle.ir_context.proofs.uses.ValueUseCalls.num_uses.Goals as goal

pub returns-clause-only : goal.returns-clause-only
returns-clause-only g c = rw (← c.ctx.view_is) c.use_count.ensures.only

pub returns-clause-listed : goal.returns-clause-listed
returns-clause-listed g c = rw (← c.ctx.view_is) c.use_count.ensures.listed
