use Rattle.opt_solvers.proofs.ChainsFollowing.{AreResolved}
use Rattle.opt_solvers.proofs.chains_followed.followed.Given as goal

abbrev pub invariant-loop-start : goal.invariant-loop-start
invariant-loop-start l = AreResolved l.next l.known l.start
