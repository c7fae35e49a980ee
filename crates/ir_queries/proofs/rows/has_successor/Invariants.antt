use Rattle.std.proofs.Common.{◌≢◌, ℕ, ◌<◌, Some, slice_get}
use Rattle.ir_program.specs.Rows.{successors_at}
use Rattle.ir_queries.proofs.rows.has_successor.Given as goal

abbrev pub invariant-loop-i : goal.invariant-loop-i
invariant-loop-i g l = (k : ℕ) → k < l.i → slice_get (successors_at l.program l.op) k ≢ Some l.block
