use Rattle.ir_walks.proofs.Measure.{turns_left}
use Rattle.ir_mutable_walks.proofs.Passing.{Passing}
use Rattle.ir_mutable_walks.proofs.turning.next_call.Given as goal

abbrev pub invariant-turns : goal.invariant-turns
invariant-turns g l = Passing l.program l.config l.root l.fn.from l.at

abbrev pub decreases-turns : goal.decreases-turns
decreases-turns g l = turns_left l.program l.config l.root l.at
