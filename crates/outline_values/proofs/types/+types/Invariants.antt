use Rattle.std.proofs.Common.{◌+◌, ◌*◌, length}
use Rattle.text_streams.specs.Positions.{left}
use Rattle.outline_values.specs.Places.{GoesTo}
use Rattle.outline_values.proofs.types.+types.Given as goal

abbrev pub decreases-read_type : goal.decreases-read_type
decreases-read_type l = 3 * l.left

abbrev pub decreases-read_function : goal.decreases-read_function
decreases-read_function l = 3 * l.left + 2

abbrev pub decreases-read_types : goal.decreases-read_types
decreases-read_types l = 3 * l.left + 1

abbrev pub invariant-read_types-loop-next : goal.invariant-read_types-loop-next
invariant-read_types-loop-next l = GoesTo l.fn.at l.end

abbrev pub decreases-read_types-loop-next : goal.decreases-read_types-loop-next
decreases-read_types-loop-next l = length (left l.end)
