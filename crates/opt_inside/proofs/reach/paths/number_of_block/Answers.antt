use Rattle.std.proofs.Common.{sym, ◌∙◌}
use Rattle.ir_program.specs.Replacing.{same_block}
use Rattle.opt_inside.proofs.ReachLemmas.Places.{no_place}
use Rattle.opt_inside.proofs.reach.paths.number_of_block.Goals as goal

pub returns-in-None : goal.returns-in-None
returns-in-None c = c.len.ensures.len ∙ sym (no_place (same_block c.args.block) c.args.blocks.now.keys (sym c.in-None.is ∙ c.get_index_of.ensures.index))
