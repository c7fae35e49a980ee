use Rattle.ir_program.specs.Replacing.{MayAnswerOfUse}
use Rattle.ir_program.specs.Spots.{successor_use}
use Rattle.ir_program.proofs.used.Choices.{IsChoosing}
use Rattle.ir_program.proofs.program.Program.choose_successors.Given as goal

abbrev pub invariant-loop-place : goal.invariant-loop-place
invariant-loop-place g l =
    (goal.iterator-loop-place g).can_next l.place-iterator ×
    (goal.iterator-loop-place g).is_finite l.place-iterator ×
    IsChoosing l.self.targets l.thread (λ q. MayAnswerOfUse g.F.Fn l.predicate l.self (successor_use l.self q)) l.place-iterator l.chosen.items
