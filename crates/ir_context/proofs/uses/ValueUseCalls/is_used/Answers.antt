use Rattle.ir_context.proofs.uses.ValueUseCalls.is_used.Goals as goal

pub returns : goal.returns
returns g c = rw (← c.ctx.view_is) c.is_used.ensures
