use Rattle.std.proofs.Common.{◌≡◌, slice_range}
use Rattle.ir_program.specs.Rows.{operands_at}
use Rattle.builtin_ifaces.proofs.operand_ranges.operands_in.Given as goal

-- the operands so far
abbrev pub invariant-loop-i : goal.invariant-loop-i
invariant-loop-i g l = l.values.items ≡ slice_range (operands_at l.ctx.program l.op) l.start l.i
