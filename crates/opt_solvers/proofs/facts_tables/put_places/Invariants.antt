use Rattle.std.proofs.Common.{◌≡◌, Some, take}
use Rattle.std.specs.Prelude.{slice_get}
use Rattle.opt_rows.specs.LinkedRows.{RowsGain}
use Rattle.opt_solvers.proofs.facts_tables.put_places.Given as goal

abbrev pub invariant-loop-operand : goal.invariant-loop-operand
invariant-loop-operand l = RowsGain (λ v x. (x.row ≡ l.number) × (slice_get (take l.operand l.operands) x.operand ≡ Some v)) l.initial.readers l.readers
