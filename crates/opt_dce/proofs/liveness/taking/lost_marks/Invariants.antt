use Rattle.std.proofs.Common.{◌≡◌, ◌<◌, ℕ, length}
use Rattle.std.specs.Prelude.{◌↔◌}
use Rattle.opt_dce.specs.liveness.Taken.{HasMarkAt, OperandGoes}
use Rattle.opt_dce.proofs.liveness.taking.lost_marks.Given as goal

abbrev pub invariant-loop-operand : goal.invariant-loop-operand
invariant-loop-operand l = record {
  len : length l.marks.items ≡ l.operand-index;
  goes : (i : ℕ) → HasMarkAt l.marks.items i ↔ ((i < length l.marks.items) × OperandGoes l.operands l.arguments i);
}
