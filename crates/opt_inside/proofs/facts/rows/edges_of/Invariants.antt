use Rattle.std.proofs.Common.{◌≡◌, Some}
use Rattle.ir_program.specs.Program.{OperationView, operation_at}
use Rattle.opt_inside.specs.Numbered.{numbers_of}
use Rattle.opt_inside.specs.facts.Problem.{IsEdge, branches_to}
use Rattle.opt_inside.proofs.FactsLemmas.Lists.{Paired}
use Rattle.opt_inside.proofs.facts.rows.edges_of.Given as goal

abbrev pub invariant-loop-i : goal.invariant-loop-i
invariant-loop-i g l = (o : OperationView g.row.D-Operation.Denot) → operation_at l.program l.op ≡ Some o
    → Paired (IsEdge {B = g.row.D-Block.Denot} g.D.Meanings.meaning (numbers_of l.inside) o) (branches_to {B = g.row.D-Block.Denot} g.D.Meanings.meaning o) l.i l.edges
