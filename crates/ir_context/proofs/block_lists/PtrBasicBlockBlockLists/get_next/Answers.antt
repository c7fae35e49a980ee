use Rattle.ir_context.proofs.block_lists.PtrBasicBlockBlockLists.get_next.Goals as goal

pub returns-clause-unlinked : goal.returns-clause-unlinked
returns-clause-unlinked g c = rw (← c.ctx.view_is) (c.next_block.ensures.unlinked)

pub next_block-requires : goal.next_block-requires
next_block-requires g c = rw (← c.ctx.view_is) at c.requires

pub returns-clause-next : goal.returns-clause-next
returns-clause-next g c = rw (← c.ctx.view_is) (c.next_block.ensures.next)

pub returns-clause-live : goal.returns-clause-live
returns-clause-live g c = rw (← c.ctx.view_is) (c.next_block.ensures.live)
