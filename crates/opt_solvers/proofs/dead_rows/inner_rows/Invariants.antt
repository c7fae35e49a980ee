use Rattle.opt_rows.specs.LinkedRows.{RowsGain}
use Rattle.opt_solvers.proofs.DeadNoting.{InsideOf}
use Rattle.opt_solvers.proofs.dead_rows.inner_rows.Given as goal

abbrev pub invariant-loop-number : goal.invariant-loop-number
invariant-loop-number l = RowsGain (InsideOf l.problem l.number) l.initial.rows l.rows
