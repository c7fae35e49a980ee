use Rattle.std.proofs.Common.{rules}
use Rattle.opt_chains.proofs.NextBlock.{number_is}
use Rattle.opt_chains.proofs.next_blocks.number_of.Goals as goal

pub returns : goal.returns
returns c = number_is _ c.args.blocks.now.keys c.args.block c.get_index_of.result c.requires (λ a h. search rules) (search rules) c.get_index_of.ensures.index c.get_index_of.ensures.found
