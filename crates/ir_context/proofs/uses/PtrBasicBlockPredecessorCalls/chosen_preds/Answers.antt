use Rattle.ir_context.proofs.uses.PtrBasicBlockPredecessorCalls.chosen_preds.Goals as goal

pub returns-clause-stand : goal.returns-clause-stand
returns-clause-stand g c = rw (← c.ctx.view_is) c.choose_edges.ensures.stand
