use Rattle.ir_context.proofs.results.PtrOperationResultCalls.pop_result.Goals as goal

pub pop_result-requires-clause-unused : goal.pop_result-requires-clause-unused
pop_result-requires-clause-unused g c = rw (← c.ctx.view_is) at c.requires.unused
