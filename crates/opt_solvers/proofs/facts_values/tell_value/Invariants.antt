use Rattle.opt_solvers.proofs.FactsTelling.{ToldUpTo}
use Rattle.opt_solvers.proofs.facts_values.tell_value.Given as goal

abbrev pub invariant-loop-place : goal.invariant-loop-place
invariant-loop-place g l = ToldUpTo (g.F.Folding.answers l.folding) l.problem l.fn.solver.found l.solver l.value l.place-iterator
