use Rattle.ir_context.proofs.uses.PtrBasicBlockPredecessorCalls.num_preds.Goals as goal

pub returns-clause-only : goal.returns-clause-only
returns-clause-only g c = rw (← c.ctx.view_is) c.predecessor_count.ensures.only

pub returns-clause-listed : goal.returns-clause-listed
returns-clause-listed g c = rw (← c.ctx.view_is) c.predecessor_count.ensures.listed
