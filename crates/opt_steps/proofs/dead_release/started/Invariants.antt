use Rattle.opt_steps.proofs.DeadReleasing.{IsStarting}
use Rattle.opt_steps.proofs.dead_release.started.Given as goal

abbrev pub invariant-loop-item : goal.invariant-loop-item
invariant-loop-item l = IsStarting l.uses l.item l.work
