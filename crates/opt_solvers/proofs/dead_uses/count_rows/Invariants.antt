use Rattle.std.proofs.Common.{take}
use Rattle.opt_solvers.specs.DeadUses.{kept_by, CountsItems}
use Rattle.opt_solvers.proofs.dead_uses.count_rows.Given as goal

abbrev pub invariant-loop-index : goal.invariant-loop-index
invariant-loop-index l = CountsItems (kept_by (take l.index l.rows)) l.initial.uses.items l.uses.items
