use Rattle.std.proofs.Common.{◌≡◌}
use Rattle.pass_analyses.specs.Filled.{Computes}
use Rattle.pass_analyses.proofs.Filling.{HasFilled}
use Rattle.pass_analyses.proofs.manager.AnalysisManager.+fill.Given as goal

abbrev pub decreases-fill : goal.decreases-fill
decreases-fill g l = g.E.Analysis.reading.rank_of l.kind

abbrev pub invariant-loop-need : goal.invariant-loop-need
invariant-loop-need g l =
    HasFilled g.E.Kind.PartialEq.eq g.E.Analysis.reading.rank_of g.E.Analysis.reading.needed
    (Computes g.E.Kind.PartialEq.eq g.E.Analysis.reading l.ctx l.op) l.op
    l.kind l.need-items l.need-index l.fn.self.analyses.entries.entries l.self.analyses.entries.entries
    × (l.self.pm_data ≡ l.fn.self.pm_data)
