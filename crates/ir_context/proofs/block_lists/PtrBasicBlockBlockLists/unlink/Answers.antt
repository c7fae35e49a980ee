use Rattle.ir_context.proofs.block_lists.PtrBasicBlockBlockLists.unlink.Goals as goal

pub returns-clause-unlinked : goal.returns-clause-unlinked
returns-clause-unlinked g c = c.unlink_block.ensures.unlinked

pub unlink_block-requires : goal.unlink_block-requires
unlink_block-requires g c = rw (← c.ctx.view_is) at c.requires

pub returns-clause-edited : goal.returns-clause-edited
returns-clause-edited g c = rw (← c.ctx.view_is) (c.unlink_block.ensures.edited)

pub returns-clause-inside : goal.returns-clause-inside
returns-clause-inside g c = rw (← c.ctx.view_is) (c.unlink_block.ensures.inside)

pub returns-clause-values : goal.returns-clause-values
returns-clause-values g c = rw (← c.ctx.view_is) (c.unlink_block.ensures.values)
