use Rattle.std.proofs.Common.{take}
use Rattle.opt_solvers.specs.FactsTables.{HoldRows}
use Rattle.opt_solvers.proofs.facts_tables.tables_of.Given as goal

abbrev pub invariant-loop-number : goal.invariant-loop-number
invariant-loop-number l = HoldRows l.problem l.initial.tables l.tables (take l.number l.problem.rows)
