use Rattle.std.proofs.Common.{◌≡◌, take}
use Rattle.ir_program.specs.Program.{results_at}
use Rattle.ir_queries.specs.Rows.{values_of}
use Rattle.ir_queries.proofs.rows.results_of.Given as goal

abbrev pub invariant-loop-i : goal.invariant-loop-i
invariant-loop-i g l = l.results.items ≡ take l.i (values_of (results_at l.program l.op))
