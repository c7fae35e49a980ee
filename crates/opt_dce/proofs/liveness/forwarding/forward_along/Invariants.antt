use Rattle.opt_inside.specs.Numbered.{numbers_of}
use Rattle.opt_dce.specs.liveness.Problems.{Notes}
use Rattle.opt_dce.proofs.LivenessLemmas.Noting.{GoesBelow}
use Rattle.opt_dce.proofs.liveness.forwarding.forward_along.Given as goal

abbrev pub invariant-loop-place : goal.invariant-loop-place
invariant-loop-place g l = Notes (GoesBelow l.program (numbers_of l.inside) l.block l.indices l.place) l.initial.targets.items l.targets.items
