use Rattle.ir_context.proofs.Appending.{can_append_blocks}
use Rattle.ir_context.proofs.containers.PtrRegionContainsBlocks.can_append.Goals as goal

pub returns : goal.returns
returns g c = rw (← c.ctx.view_is) (can_append_blocks c.ctx.inside.program c.args.self c.args.donor c.is_inside.result c.is_inside.ensures)
