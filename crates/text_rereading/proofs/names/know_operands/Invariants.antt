use Rattle.ir_program.specs.Rows.{operands_at}
use Rattle.text_rereading.proofs.SmallNumbers.{AreSmallUpTo}
use Rattle.text_rereading.proofs.names.know_operands.Given as goal

abbrev pub invariant-loop-index : goal.invariant-loop-index
invariant-loop-index g l = AreSmallUpTo (operands_at l.program l.op) l.index
