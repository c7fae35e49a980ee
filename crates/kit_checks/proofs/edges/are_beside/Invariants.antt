use Rattle.ir_program.specs.Rows.{successors_at}
use Rattle.kit_checks.specs.Handing.{IsBeside}
use Rattle.kit_checks.proofs.Everys.{EveryBelow}
use Rattle.kit_checks.proofs.edges.are_beside.Given as goal

-- those that were seen are in the region
abbrev pub invariant-loop-index : goal.invariant-loop-index
invariant-loop-index g l = EveryBelow (IsBeside l.program l.op) (successors_at l.program l.op) l.index
