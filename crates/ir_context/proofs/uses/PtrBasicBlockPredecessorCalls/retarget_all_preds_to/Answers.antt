use Rattle.ir_context.proofs.uses.PtrBasicBlockPredecessorCalls.retarget_all_preds_to.Goals as goal

pub returns-clause-count : goal.returns-clause-count
returns-clause-count g c = rw (← c.ctx.view_is) c.retarget_all.ensures.count
