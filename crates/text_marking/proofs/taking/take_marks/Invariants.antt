use Rattle.std.proofs.Common.{◌-◌, length}
use Rattle.ir_characters.specs.Texts.{codes_of}
use Rattle.text_marking.proofs.Steps.{Separating}
use Rattle.text_marking.proofs.taking.take_marks.Given as goal

abbrev pub invariant-loop-at : goal.invariant-loop-at
invariant-loop-at l = Separating (codes_of l.text) l.at l.taking

abbrev pub decreases-loop-at : goal.decreases-loop-at
decreases-loop-at l = length (codes_of l.text) - l.at
