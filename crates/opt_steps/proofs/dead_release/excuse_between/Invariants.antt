use Rattle.std.proofs.Common.{◌≤◌, ◌<◌}
use Rattle.opt_steps.specs.DeadRelease.{ExcusesMore}
use Rattle.opt_steps.proofs.dead_release.excuse_between.Given as goal

abbrev pub invariant-loop-place : goal.invariant-loop-place
invariant-loop-place l = ExcusesMore l.keeps (λ k. (l.from ≤ k) × (k < l.place)) l.initial.counts l.counts
