use Rattle.std.proofs.Common.{◌≢◌, ℕ, ◌<◌, Some}
use Rattle.ir_program.specs.Program.{arguments_at, value_in}
use Rattle.ir_queries.proofs.finding.index_in_arguments.Given as goal

abbrev pub invariant-loop-i : goal.invariant-loop-i
invariant-loop-i g l = (k : ℕ) → k < l.i → value_in (arguments_at l.program l.block) k ≢ Some l.value
