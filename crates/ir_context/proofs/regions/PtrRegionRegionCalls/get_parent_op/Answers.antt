use Rattle.std.proofs.Common.{ap, Some}
use Rattle.ir_context.proofs.regions.PtrRegionRegionCalls.get_parent_op.Goals as goal

pub returns-clause-only : goal.returns-clause-only
returns-clause-only g c = rw (← c.ctx.view_is) (λ op h. ap Some (c.parent_operation.ensures.only op h))
