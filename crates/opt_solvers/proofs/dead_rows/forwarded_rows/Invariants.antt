use Rattle.std.proofs.Common.{take}
use Rattle.opt_rows.specs.LinkedRows.{RowsGain}
use Rattle.opt_solvers.specs.DeadRows.{ForwardsOperand}
use Rattle.opt_solvers.proofs.dead_rows.forwarded_rows.Given as goal

abbrev pub invariant-loop-number : goal.invariant-loop-number
invariant-loop-number l = RowsGain (ForwardsOperand (take l.number l.operand-items)) l.initial.rows l.rows
