use Rattle.ir_context.proofs.blocks.PtrBasicBlockBlockCalls.get_parent_op.Goals as goal

pub returns-clause-only : goal.returns-clause-only
returns-clause-only g c = rw (← c.ctx.view_is) c.operation_of_block.ensures.only
