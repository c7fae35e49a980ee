use Rattle.std.proofs.Common.{◌≡◌, ◌++◌}
use Rattle.std.specs.Prelude.{Contains}
use Rattle.opt_steps.specs.DeadRelease.{ExcusesMore}
use Rattle.opt_steps.proofs.dead_release.excuse_row.Given as goal

abbrev pub invariant-loop-place : goal.invariant-loop-place
invariant-loop-place l = ExcusesMore l.keeps (λ k. Contains l.yielded k) l.initial.counts l.counts × (l.yielded ++ l.place-iterator ≡ l.fn.places)
