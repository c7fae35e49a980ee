use Rattle.std.proofs.Common.{[]}
use Rattle.opt_rows.specs.FactsFound.{left}
use Rattle.opt_solvers.specs.FactsSolving.{IsSolving, IsWaiting}
use Rattle.opt_solvers.proofs.facts.run.Given as goal

abbrev pub invariant-steps : goal.invariant-steps
invariant-steps g l = IsSolving (g.F.Folding.answers l.folding) l.problem l.solver [] × IsWaiting (g.F.Folding.answers l.folding) l.problem l.solver [] []

abbrev pub decreases-steps : goal.decreases-steps
decreases-steps g l = left l.solver.found
