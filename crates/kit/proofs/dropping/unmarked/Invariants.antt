use Rattle.std.proofs.Common.{◌≡◌, ◌+◌}
use Rattle.opt_dialect.specs.Masks.{marked}
use Rattle.kit.specs.Dropped.{kept}
use Rattle.kit.proofs.dropping.unmarked.Given as goal

abbrev pub invariant-loop-i : goal.invariant-loop-i
invariant-loop-i l = kept (marked l.marks) l.start l.i + l.gone ≡ l.i
