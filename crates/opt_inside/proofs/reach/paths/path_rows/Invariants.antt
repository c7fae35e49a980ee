use Rattle.opt_inside.proofs.ReachLemmas.Marks.{HasRows}
use Rattle.opt_inside.proofs.reach.paths.path_rows.Given as goal

-- the rows of the first blocks
abbrev pub invariant-loop-block : goal.invariant-loop-block
invariant-loop-block g l = HasRows l.program l.blocks.keys l.block-index l.rows.items
