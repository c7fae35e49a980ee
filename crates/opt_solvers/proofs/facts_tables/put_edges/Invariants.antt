use Rattle.std.proofs.Common.{◌≡◌, take}
use Rattle.opt_rows.specs.OperationRows.{row_numbered}
use Rattle.opt_rows.specs.LinkedRows.{RowsGain}
use Rattle.opt_solvers.specs.FactsTables.{ForwardsAlong}
use Rattle.opt_solvers.proofs.facts_tables.put_edges.Given as goal

abbrev pub invariant-loop-index : goal.invariant-loop-index
invariant-loop-index l =
    let r = row_numbered l.problem.rows l.number in
    RowsGain (λ v x. (x.row ≡ l.number) × ForwardsAlong l.problem (take l.index r.edges) r.operands v x.edge x.argument) l.initial.slots l.slots
