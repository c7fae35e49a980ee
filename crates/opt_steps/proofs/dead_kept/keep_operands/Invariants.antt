use Rattle.std.proofs.Common.{take, map}
use Rattle.opt_steps.specs.DeadPlaces.{operand_place, KeepMore}
use Rattle.opt_steps.proofs.dead_kept.keep_operands.Given as goal

abbrev pub invariant-loop-operand : goal.invariant-loop-operand
invariant-loop-operand l = KeepMore l.problem (map (operand_place l.user) (take l.operand-index l.operand-items)) l.initial.rows l.rows
