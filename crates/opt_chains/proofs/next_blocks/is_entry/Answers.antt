use Rattle.opt_chains.proofs.NextBlock.{entry_is}
use Rattle.opt_chains.proofs.next_blocks.is_entry.Goals as goal

pub returns : goal.returns
returns g c = entry_is c.args.program.now c.args.block c.previous_block.result c.is_none.result c.is_none.ensures c.previous_block.ensures.previous c.previous_block.ensures.first
