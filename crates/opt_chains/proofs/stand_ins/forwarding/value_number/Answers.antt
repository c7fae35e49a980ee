use Rattle.std.proofs.Common.{rules}
use Rattle.opt_chains.proofs.NextBlock.{number_is}
use Rattle.opt_chains.proofs.stand_ins.forwarding.value_number.Goals as goal

pub returns : goal.returns
returns c = number_is _ c.args.inside.now.values.keys c.args.value c.get_index_of.result c.requires (λ a h. search rules) (search rules) c.get_index_of.ensures.index c.get_index_of.ensures.found
