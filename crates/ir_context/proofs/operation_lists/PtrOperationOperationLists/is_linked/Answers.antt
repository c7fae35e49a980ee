use Rattle.ir_program.specs.Lists.{StandsInBlock}
use Rattle.ir_context.proofs.KnownTypes.{linked_where}
use Rattle.ir_context.proofs.operation_lists.PtrOperationOperationLists.is_linked.Goals as goal

pub returns : goal.returns
returns g c = record { linked = rw c.is_some.ensures (rw (← c.ctx.view_is) (linked_where (StandsInBlock c.ctx.inside.program c.args.self) c.parent_block.result c.parent_block.ensures.parent)) }
