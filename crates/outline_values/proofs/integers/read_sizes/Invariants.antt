use Rattle.std.proofs.Common.{length}
use Rattle.text_streams.specs.Positions.{left}
use Rattle.outline_values.specs.Places.{GoesTo}
use Rattle.outline_values.proofs.integers.read_sizes.Given as goal

abbrev pub invariant-loop-next : goal.invariant-loop-next
invariant-loop-next l = GoesTo l.fn.at l.sizes.end

abbrev pub decreases-loop-next : goal.decreases-loop-next
decreases-loop-next l = length (left l.sizes.end)
