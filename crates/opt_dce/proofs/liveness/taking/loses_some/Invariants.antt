use Rattle.std.proofs.Common.{◌<◌, ℕ}
use Rattle.opt_dce.specs.liveness.Taken.{OperandGoes}
use Rattle.opt_dce.proofs.liveness.taking.loses_some.Given as goal

-- none of the operands that were seen goes
abbrev pub invariant-loop-operand : goal.invariant-loop-operand
invariant-loop-operand l = (k : ℕ) → k < l.operand-index → OperandGoes l.operands l.arguments k → ⊥
