use Rattle.std.proofs.Common.{map}
use Rattle.opt_rows.specs.Known.{answer}
use Rattle.opt_rows.specs.FactsFound.{Meets}
use Rattle.opt_solvers.proofs.FactsAsking.{BelowUpto}
use Rattle.opt_solvers.proofs.facts_rows.lower_results.Given as goal

abbrev pub invariant-loop-index : goal.invariant-loop-index
invariant-loop-index g l = Meets (λ k. BelowUpto l.index k.of l.results (map answer l.folds.items)) l.initial.found l.found
