use Rattle.ir_program.specs.Rows.{operands_at}
use Rattle.kit_checks.specs.Naming.{MayName}
use Rattle.kit_checks.proofs.Everys.{EveryBelow}
use Rattle.kit_checks.proofs.naming.names_visible.Given as goal

-- those that were seen may be named
abbrev pub invariant-loop-index : goal.invariant-loop-index
invariant-loop-index g l = EveryBelow (MayName l.program l.op l.spot) (operands_at l.program l.op) l.index
