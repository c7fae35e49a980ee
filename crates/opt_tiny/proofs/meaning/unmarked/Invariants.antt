use Rattle.std.proofs.Common.{◌≡◌}
use Rattle.opt_dialect.specs.Masks.{marked}
use Rattle.opt_tiny.specs.Meaning.{kept}
use Rattle.opt_tiny.proofs.meaning.unmarked.Given as goal

abbrev pub invariant-loop-i : goal.invariant-loop-i
invariant-loop-i l = l.left ≡ kept (marked l.marks) 1 l.i
