use Rattle.std.proofs.Common.{◌≡◌, ◌≤◌, ◌++◌, drop, length}
use Rattle.text_marking.specs.Putting.{with_marks, with_marks_from}
use Rattle.text_marking.proofs.putting.marked_bytes.Given as goal

abbrev pub invariant-loop-offset : goal.invariant-loop-offset
invariant-loop-offset l = (l.all.items ++ with_marks_from l.bare l.from (drop l.offset-index l.marks) ≡ with_marks l.bare l.marks) × (l.from ≤ length l.bare)
