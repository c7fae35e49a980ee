use Rattle.ir_context.proofs.KnownTypes.{kept_known}
use Rattle.ir_context.proofs.successors.PtrOperationSuccessorCalls.pop_successor.Goals as goal

pub invariant_of-ctx : goal.invariant_of-ctx
invariant_of-ctx g c = kept_known _ c.ctx.inside.program c.pop_successor.new.self c.ctx.invariant c.pop_successor.ensures.values
