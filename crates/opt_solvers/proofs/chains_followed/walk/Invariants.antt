use Rattle.std.proofs.Common.{count_by}
use Rattle.opt_solvers.proofs.ChainsFollowing.{is_new, IsWalking}
use Rattle.opt_solvers.proofs.chains_followed.walk.Given as goal

abbrev pub invariant-walk : goal.invariant-walk
invariant-walk l = IsWalking l.next l.initial.known l.known l.path.items l.start l.at

abbrev pub decreases-walk : goal.decreases-walk
decreases-walk l = count_by is_new l.known.marks.items
