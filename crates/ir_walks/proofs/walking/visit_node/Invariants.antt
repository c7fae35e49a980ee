use Rattle.ir_walks.specs.Calls.{Visits}
use Rattle.ir_walks.proofs.Measure.{turns_left}
use Rattle.ir_walks.proofs.Walked.{Walking}
use Rattle.ir_walks.proofs.walking.visit_node.Given as goal

abbrev pub invariant-turns : goal.invariant-turns
invariant-turns g l = Walking l.program l.config l.root (Visits g.F.FnMut l.ctx) (l.fn.callback, l.fn.state) l.at (l.callback, l.state)

abbrev pub decreases-turns : goal.decreases-turns
decreases-turns g l = turns_left l.program l.config l.root l.at
