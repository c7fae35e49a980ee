use Rattle.opt_inside.specs.Numbered.{numbers_of}
use Rattle.opt_inside.specs.facts.Problem.{IsRowOfOperation}
use Rattle.opt_inside.proofs.FactsLemmas.Lists.{Paired}
use Rattle.opt_inside.proofs.facts.problem.push_rows.Given as goal

abbrev pub invariant-loop-op : goal.invariant-loop-op
invariant-loop-op g l = Paired (λ i p row. IsRowOfOperation g.D.Meanings.meaning l.program (numbers_of l.inside) p row) l.op-items l.op-index l.rows
