use Rattle.opt_inside.specs.Numbered.{numbers_of}
use Rattle.ir_program.specs.Rows.{operands_at}
use Rattle.opt_dce.specs.liveness.Problems.{ListsDefiners}
use Rattle.opt_dce.proofs.LivenessLemmas.Kept.{ValuesBelow}
use Rattle.opt_dce.proofs.liveness.keeping.root_operands.Given as goal

abbrev pub invariant-loop-index : goal.invariant-loop-index
invariant-loop-index g l = ListsDefiners (numbers_of l.inside) (ValuesBelow (operands_at l.program l.op) (λ v. Unit {0}) l.index) l.kept.items
