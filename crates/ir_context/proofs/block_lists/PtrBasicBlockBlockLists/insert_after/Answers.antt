use Rattle.ir_context.proofs.block_lists.PtrBasicBlockBlockLists.insert_after.Goals as goal

pub insert_block_after-requires-clause-unlinked : goal.insert_block_after-requires-clause-unlinked
insert_block_after-requires-clause-unlinked g c = rw (← c.ctx.view_is) at c.requires.unlinked

pub returns-clause-edited : goal.returns-clause-edited
returns-clause-edited g c = rw (← c.ctx.view_is) (c.insert_block_after.ensures.edited)

pub returns-clause-values : goal.returns-clause-values
returns-clause-values g c = rw (← c.ctx.view_is) (c.insert_block_after.ensures.values)

pub insert_block_after-requires-clause-mark : goal.insert_block_after-requires-clause-mark
insert_block_after-requires-clause-mark g c = rw (← c.ctx.view_is) at c.requires.mark

pub insert_block_after-requires-clause-block : goal.insert_block_after-requires-clause-block
insert_block_after-requires-clause-block g c = rw (← c.ctx.view_is) at c.requires.block

pub insert_block_after-requires-clause-apart : goal.insert_block_after-requires-clause-apart
insert_block_after-requires-clause-apart g c = rw (← c.ctx.view_is) at c.requires.apart
