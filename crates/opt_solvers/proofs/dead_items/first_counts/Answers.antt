use Rattle.std.proofs.Common.{arith}
use Rattle.opt_solvers.proofs.DeadDying.{rows_first, rows_once}
use Rattle.opt_solvers.proofs.dead_items.first_counts.Goals as goal

pub count_uses-requires-clause-within : goal.count_uses-requires-clause-within
count_uses-requires-clause-within c = rows_first c.args.problem.now c.args.tables.now c.requires.problem c.requires.tables

pub count_uses-requires-clause-fits : goal.count_uses-requires-clause-fits
count_uses-requires-clause-fits c = let e = c.len.ensures.len in let f = c.len.ensures.fits in omega (arith, e, f)

pub count_uses-requires-clause-once : goal.count_uses-requires-clause-once
count_uses-requires-clause-once c = rows_once c.args.problem.now c.args.tables.now c.requires.problem c.requires.tables
