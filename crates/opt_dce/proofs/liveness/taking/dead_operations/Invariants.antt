use Rattle.std.proofs.Common.{take, true}
use Rattle.opt_dce.specs.liveness.Taken.{Picks, ArePaired, same}
use Rattle.opt_dce.proofs.liveness.taking.dead_operations.Given as goal

abbrev pub invariant-loop-index : goal.invariant-loop-index
invariant-loop-index l = Picks same (λ p. Unit {0}) (λ p. ArePaired l.inside.operations.keys l.marks p true) (take l.index l.inside.operations.keys) l.dead.items
