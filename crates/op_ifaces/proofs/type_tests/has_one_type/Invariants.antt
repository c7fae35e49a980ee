use Rattle.std.proofs.Common.{◌≡◌, ℕ, ◌<◌}
use Rattle.op_ifaces.specs.Rows.{row_type}
use Rattle.op_ifaces.proofs.type_tests.has_one_type.Given as goal

-- those that were seen are alike
abbrev pub invariant-loop-i : goal.invariant-loop-i
invariant-loop-i g l = (k : ℕ) → k < l.i → row_type l.ctx.program l.op l.row k ≡ row_type l.ctx.program l.op l.row 0
