use Rattle.std.proofs.Common.{take}
use Rattle.opt_steps.specs.DeadRelease.{Releases}
use Rattle.opt_steps.proofs.dead_release.release_all.Given as goal

abbrev pub invariant-loop-item : goal.invariant-loop-item
invariant-loop-item l = Releases (take l.item-index l.items) l.initial.uses.items l.uses.items l.initial.work l.work
