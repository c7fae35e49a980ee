use Rattle.ir_program.specs.Rows.{successors_at}
use Rattle.ir_context.specs.Chosen.{MaySay}
use Rattle.ir_context.proofs.ChosenPlaces.{IsChoosing}
use Rattle.ir_context.proofs.uses.choose_edges.Given as goal

abbrev pub invariant-loop-place : goal.invariant-loop-place
invariant-loop-place g l =
    (goal.iterator-loop-place g).can_next l.place-iterator ×
    (goal.iterator-loop-place g).is_finite l.place-iterator ×
    IsChoosing (successors_at l.program) l.fn.used (λ u. MaySay g.F.Fn l.predicate u) l.place-iterator l.chosen.items
