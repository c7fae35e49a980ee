use Rattle.std.proofs.Common.{◌≡◌}
use Rattle.kit.specs.Meaning.{range}
use Rattle.kit.proofs.meaning.indices.Given as goal

abbrev pub invariant-loop-i : goal.invariant-loop-i
invariant-loop-i l = l.found.items ≡ range l.start l.i
