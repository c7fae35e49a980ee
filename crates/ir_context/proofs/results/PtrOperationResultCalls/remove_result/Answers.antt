use Rattle.ir_context.proofs.results.PtrOperationResultCalls.remove_result.Goals as goal

pub remove_result-requires-clause-unused : goal.remove_result-requires-clause-unused
remove_result-requires-clause-unused g c = rw (← c.ctx.view_is) at c.requires.unused
