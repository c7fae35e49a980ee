use Rattle.opt_steps.proofs.DeadCrossing.{room, IsGoingOut}
use Rattle.opt_steps.proofs.dead_kept.outwards.Given as goal

abbrev pub invariant-loop-operation : goal.invariant-loop-operation
invariant-loop-operation l = IsGoingOut l.problem l.initial.operation l.limit l.operation

abbrev pub decreases-loop-operation : goal.decreases-loop-operation
decreases-loop-operation l = room l.operation
