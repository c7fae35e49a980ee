use Rattle.std.proofs.Common.{◌≡◌, ◌++◌}
use Rattle.opt_rows.specs.FactsFound.{Meets}
use Rattle.opt_solvers.specs.FactsSolving.{SlotsBelow}
use Rattle.opt_solvers.proofs.facts_values.forward.Given as goal

abbrev pub invariant-loop-slot : goal.invariant-loop-slot
invariant-loop-slot g l = Meets (SlotsBelow l.taken l.yielded l.fact) l.initial.found l.found × (l.yielded ++ l.slot-iterator ≡ l.fn.slots)
