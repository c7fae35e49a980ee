use Rattle.std.proofs.Common.{take}
use Rattle.opt_steps.specs.DeadPlaces.{operand_places, AreKeptRows}
use Rattle.opt_steps.proofs.dead_kept.kept_rows.Given as goal

abbrev pub invariant-loop-user : goal.invariant-loop-user
invariant-loop-user l = AreKeptRows l.problem (operand_places 0 (take l.user l.problem.operations)) l.rows
