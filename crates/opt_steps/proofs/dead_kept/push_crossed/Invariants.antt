use Rattle.opt_steps.proofs.DeadCrossing.{room, IsCrossing}
use Rattle.opt_steps.proofs.dead_kept.push_crossed.Given as goal

abbrev pub invariant-loop-definer : goal.invariant-loop-definer
invariant-loop-definer l = IsCrossing l.problem l.initial.definer l.initial.user l.initial.kept.items l.definer l.user l.kept.items

abbrev pub decreases-loop-definer : goal.decreases-loop-definer
decreases-loop-definer l = room l.definer
