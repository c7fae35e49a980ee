use Rattle.std.proofs.Common.{◌≡◌}
use Rattle.ir_program.specs.Edits.{EditsOperation}
use Rattle.opt_dce.proofs.Lost.{loses_from}
use Rattle.opt_dce.proofs.operands.remove_operands.Given as goal

-- the marked operands from here on are out
abbrev pub invariant-loop-i : goal.invariant-loop-i
invariant-loop-i g l = record { removed : EditsOperation l.fn.ctx.program l.ctx.program l.op (loses_from l.i l.marks); types : l.ctx.types ≡ l.fn.ctx.types; numbers : l.ctx.program.counter ≡ l.fn.ctx.program.counter }
