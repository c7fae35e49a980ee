use Rattle.std.proofs.Common.{◌+◌, ◌*◌, length}
use Rattle.text_streams.specs.Positions.{left}
use Rattle.outline_values.specs.Places.{GoesTo}
use Rattle.outline_values.proofs.attributes.+attributes.Given as goal

abbrev pub decreases-read_attribute : goal.decreases-read_attribute
decreases-read_attribute l = 4 * l.left

abbrev pub decreases-read_content : goal.decreases-read_content
decreases-read_content l = 4 * l.left + 3

abbrev pub decreases-read_list : goal.decreases-read_list
decreases-read_list l = 4 * l.left + 2

abbrev pub decreases-read_dictionary : goal.decreases-read_dictionary
decreases-read_dictionary l = 4 * l.left + 2

abbrev pub decreases-read_member : goal.decreases-read_member
decreases-read_member l = 4 * l.left + 1

abbrev pub invariant-read_list-loop-next : goal.invariant-read_list-loop-next
invariant-read_list-loop-next l = GoesTo l.fn.at l.end

abbrev pub decreases-read_list-loop-next : goal.decreases-read_list-loop-next
decreases-read_list-loop-next l = length (left l.end)

abbrev pub invariant-read_dictionary-loop-next : goal.invariant-read_dictionary-loop-next
invariant-read_dictionary-loop-next l = GoesTo l.fn.at l.end

abbrev pub decreases-read_dictionary-loop-next : goal.decreases-read_dictionary-loop-next
decreases-read_dictionary-loop-next l = length (left l.end)
