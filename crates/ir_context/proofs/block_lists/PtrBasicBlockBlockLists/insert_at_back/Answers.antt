use Rattle.ir_context.proofs.block_lists.PtrBasicBlockBlockLists.insert_at_back.Goals as goal

pub insert_block_at_back-requires-clause-unlinked : goal.insert_block_at_back-requires-clause-unlinked
insert_block_at_back-requires-clause-unlinked g c = rw (← c.ctx.view_is) at c.requires.unlinked
