use Rattle.std.proofs.Common.{◌≡◌, ℕ, Some, length, slice_get}
use Rattle.opt_rows.specs.declared.dead_problem.Operand.{Operand}
use Rattle.opt_inside.specs.Numbered.{numbers_of}
use Rattle.opt_dce.specs.liveness.Problems.{IsOperandOf}
use Rattle.opt_dce.proofs.liveness.candidates.operands_of.Given as goal

abbrev pub invariant-loop-index : goal.invariant-loop-index
invariant-loop-index g l = record {
  len : length l.operands.items ≡ l.index;
  operands : (k : ℕ) (o : Operand) → slice_get l.operands.items k ≡ Some o → IsOperandOf g.D.Meanings.meaning l.program (numbers_of l.inside) l.op k o;
}
