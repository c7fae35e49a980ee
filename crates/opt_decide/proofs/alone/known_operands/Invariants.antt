use Rattle.std.proofs.Common.{◌≡◌, take, map}
use Rattle.ir_program.specs.Rows.{operands_at}
use Rattle.opt_decide.specs.Planned.{known_alone}
use Rattle.opt_decide.proofs.alone.known_operands.Given as goal

-- what the first operands are known to be
abbrev pub invariant-loop-i : goal.invariant-loop-i
invariant-loop-i g l = l.known.items ≡ map (known_alone g.D.Meanings.meaning l.program) (take l.i (operands_at l.program l.op))
