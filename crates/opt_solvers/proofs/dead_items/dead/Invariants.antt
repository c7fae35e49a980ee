use Rattle.digraph.specs.Work.{left}
use Rattle.opt_solvers.specs.DeadRows.{AreDeadTables}
use Rattle.opt_solvers.proofs.DeadDying.{IsDying}
use Rattle.opt_solvers.proofs.dead_items.dead.Given as goal

abbrev pub invariant-loop-item : goal.invariant-loop-item
invariant-loop-item l = AreDeadTables l.problem l.tables × IsDying l.problem l.tables l.counts.excused.items l.counts.uses.items l.counts.work

abbrev pub decreases-loop-item : goal.decreases-loop-item
decreases-loop-item l = left l.counts.work
