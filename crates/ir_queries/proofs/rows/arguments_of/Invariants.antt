use Rattle.std.proofs.Common.{◌≡◌, take}
use Rattle.ir_program.specs.Program.{arguments_at}
use Rattle.ir_queries.specs.Rows.{values_of}
use Rattle.ir_queries.proofs.rows.arguments_of.Given as goal

abbrev pub invariant-loop-i : goal.invariant-loop-i
invariant-loop-i g l = l.arguments.items ≡ take l.i (values_of (arguments_at l.program l.block))
