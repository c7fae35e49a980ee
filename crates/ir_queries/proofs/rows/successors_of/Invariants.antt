use Rattle.std.proofs.Common.{◌≡◌, take}
use Rattle.ir_program.specs.Rows.{successors_at}
use Rattle.ir_queries.proofs.rows.successors_of.Given as goal

abbrev pub invariant-loop-i : goal.invariant-loop-i
invariant-loop-i g l = l.successors.items ≡ take l.i (successors_at l.program l.op)
