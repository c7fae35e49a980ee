use Rattle.ir_context.proofs.uses.ValueUseCalls.replace_all_uses_with.Goals as goal

pub returns-clause-count : goal.returns-clause-count
returns-clause-count g c = rw (← c.ctx.view_is) c.replace_all_uses.ensures.count
