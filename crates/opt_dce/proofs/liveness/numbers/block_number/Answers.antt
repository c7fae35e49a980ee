use Rattle.std.proofs.Common.{rules}
use Rattle.opt_dce.proofs.liveness.numbers.block_number.Goals as goal
use Rattle.opt_dce.proofs.LivenessLemmas.Keys.{number_is}

pub returns : goal.returns
returns c = number_is _ c.args.inside.now.blocks.keys c.args.block c.get_index_of.result (λ a h. search rules) (search rules) c.get_index_of.ensures.index c.get_index_of.ensures.found
