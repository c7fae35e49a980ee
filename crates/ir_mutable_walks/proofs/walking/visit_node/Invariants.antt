use Rattle.ir_mutable_walks.specs.Changes.{moment, program_at, Visits}
use Rattle.ir_mutable_walks.proofs.Ended.{Calling}
use Rattle.ir_mutable_walks.proofs.walking.visit_node.Given as goal

abbrev pub invariant-calls : goal.invariant-calls
invariant-calls g l =
    Calling (program_at g.C.HasProgram.program_of) (Visits g.F.FnMut) l.config l.root l.fn.limit (moment l.fn.callback l.fn.ctx l.fn.state) l.left l.at (moment l.callback l.ctx l.state)

abbrev pub decreases-calls : goal.decreases-calls
decreases-calls g l = l.left
