use Rattle.ir_program.specs.Lists.{StandsInRegion}
use Rattle.ir_context.proofs.KnownTypes.{linked_where}
use Rattle.ir_context.proofs.block_lists.PtrBasicBlockBlockLists.is_linked.Goals as goal

pub returns : goal.returns
returns g c = record { linked = rw c.is_some.ensures (rw (← c.ctx.view_is) (linked_where (StandsInRegion c.ctx.inside.program c.args.self) c.parent_region.result c.parent_region.ensures.parent)) }
