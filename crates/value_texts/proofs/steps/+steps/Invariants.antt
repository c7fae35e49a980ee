use Rattle.std.proofs.Common.{◌+◌, ◌*◌, drop, length}
use Rattle.ir_print.specs.Formats.{steps_of}
use Rattle.text_streams.specs.Positions.{left}
use Rattle.value_texts.proofs.Taking.{StepsSo, ListSo}
use Rattle.value_texts.proofs.steps.+steps.Given as goal

abbrev pub decreases-read_value : goal.decreases-read_value
decreases-read_value g l = 512 * l.left

abbrev pub decreases-read_steps : goal.decreases-read_steps
decreases-read_steps g l = 512 * l.left + (4 * l.lists + 2)

abbrev pub decreases-read_step : goal.decreases-read_step
decreases-read_step g l = 512 * l.left + (4 * l.lists + 1)

abbrev pub decreases-read_list : goal.decreases-read_list
decreases-read_list g l = 512 * l.left + (4 * l.lists + 4)

abbrev pub decreases-read_member : goal.decreases-read_member
decreases-read_member g l = 512 * l.left + (4 * l.lists + 3)

abbrev pub decreases-read_choice : goal.decreases-read_choice
decreases-read_choice g l = 512 * l.left + (4 * l.lists + 3)

abbrev pub invariant-read_steps-loop-directive : goal.invariant-read_steps-loop-directive
invariant-read_steps-loop-directive g l =
    StepsSo g.M.ValueMaker.formats g.M.ValueMaker.values g.M.ValueMaker.leaf_in l.left (g.M.ValueMaker.shows l.store) (steps_of l.format) (steps_of (drop l.directive-index l.format)) l.fn.progress l.progress
    × g.M.ValueMaker.keeps l.fn.store l.store

abbrev pub invariant-read_list-loop-members : goal.invariant-read_list-loop-members
invariant-read_list-loop-members g l =
    ListSo g.M.ValueMaker.formats g.M.ValueMaker.values g.M.ValueMaker.leaf_in l.left (g.M.ValueMaker.shows l.store) (steps_of l.member) l.separator l.members.items l.fn.progress l.progress
    × g.M.ValueMaker.keeps l.fn.store l.store

abbrev pub decreases-read_list-loop-members : goal.decreases-read_list-loop-members
decreases-read_list-loop-members g l = length (left l.progress.at)
