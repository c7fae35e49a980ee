use Rattle.std.proofs.Common.{◌≡◌, take}
use Rattle.opt_rows.specs.LinkedRows.{RowsGain}
use Rattle.opt_steps.specs.FactsEdges.{ForwardsToArgument}
use Rattle.opt_solvers.proofs.facts_tables.put_forwards.Given as goal

abbrev pub invariant-loop-index : goal.invariant-loop-index
invariant-loop-index l = RowsGain (λ v x. (x.row ≡ l.row) × (x.edge ≡ l.edge) × ForwardsToArgument (take l.index l.arguments) l.forwards l.operands v x.argument) l.initial.slots l.slots
