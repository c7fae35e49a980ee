use Rattle.ir_context.proofs.KnownTypes.{grown_known}
use Rattle.ir_context.proofs.results.PtrOperationResultCalls.push_result.Goals as goal

pub invariant_of-ctx : goal.invariant_of-ctx
invariant_of-ctx g c = grown_known _ c.ctx.inside.program c.push_result.new.self c.ctx.invariant c.args.ty (rw (← c.ctx.view_is) at c.requires.known) c.push_result.result c.push_result.ensures.defined c.push_result.ensures.err_types
