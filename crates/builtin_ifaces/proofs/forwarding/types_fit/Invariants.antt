use Rattle.std.proofs.Common.{◌≡◌, ℕ, ◌<◌, ◌+◌}
use Rattle.ir_program.specs.Program.{arguments_at, type_in}
use Rattle.op_ifaces.specs.Rows.{row_type}
use Rattle.op_ifaces.specs.declared.rows.Row.TheVariants.{Operands}
use Rattle.builtin_ifaces.proofs.forwarding.types_fit.Given as goal

-- those that were seen have the arguments' types
abbrev pub invariant-loop-i : goal.invariant-loop-i
invariant-loop-i g l = (k : ℕ) → k < l.i → row_type l.ctx.program l.op Operands (l.first + k) ≡ type_in (arguments_at l.ctx.program l.block) k
