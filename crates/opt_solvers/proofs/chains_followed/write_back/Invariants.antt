use Rattle.std.proofs.Common.{take}
use Rattle.opt_solvers.specs.ChainsFollowed.{WritesBack}
use Rattle.opt_solvers.proofs.chains_followed.write_back.Given as goal

abbrev pub invariant-loop-number : goal.invariant-loop-number
invariant-loop-number l = WritesBack l.initial.known l.known (take l.number-index l.path) l.end
