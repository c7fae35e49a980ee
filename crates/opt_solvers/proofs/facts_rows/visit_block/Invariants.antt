use Rattle.std.proofs.Common.{◌≡◌, ◌++◌}
use Rattle.std.specs.Prelude.{Contains}
use Rattle.opt_rows.specs.Rows.{row_at}
use Rattle.opt_solvers.specs.FactsSolving.{VisitsOperations}
use Rattle.opt_solvers.proofs.facts_rows.visit_block.Given as goal

abbrev pub invariant-loop-number : goal.invariant-loop-number
invariant-loop-number g l = VisitsOperations (g.F.Folding.answers l.folding) l.problem l.initial.solver l.solver (λ i r. Contains l.yielded i) × (l.yielded ++ l.number-iterator ≡ row_at l.tables.rows l.block)
