use Rattle.std.proofs.Common.{◌≡◌, take, map, None}
use Rattle.ir_program.specs.Rows.{operands_at}
use Rattle.ir_program.specs.declared.handles.Value.{Value}
use Rattle.opt_decide.proofs.alone.nothing_known.Given as goal

-- so many nothings
abbrev pub invariant-loop-i : goal.invariant-loop-i
invariant-loop-i g l = l.known.items ≡ map (λ (v : Value). None) (take l.i (operands_at l.fn.program l.fn.op))
