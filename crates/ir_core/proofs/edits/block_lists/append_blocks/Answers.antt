use Rattle.ir_core.proofs.EditsLemmas.Asked.{region_apart}
use Rattle.ir_core.proofs.edits.block_lists.append_blocks.Goals as goal

pub append_linked_list-requires-clause-apart : goal.append_linked_list-requires-clause-apart
append_linked_list-requires-clause-apart g c = region_apart c.args.ctx.now.program c.args.donee c.args.donor c.is_inside.result c.is_inside.ensures c.if-is_inside.false
