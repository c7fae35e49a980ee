use Rattle.std.proofs.Common.{take, map}
use Rattle.opt_steps.specs.DeadPlaces.{kept_place, KeepMore}
use Rattle.opt_steps.proofs.dead_kept.keep_kept.Given as goal

abbrev pub invariant-loop-definer : goal.invariant-loop-definer
invariant-loop-definer l = KeepMore l.problem (map kept_place (take l.definer-index l.definer-items)) l.initial.rows l.rows
