use Rattle.opt_rows.specs.OperationRows.{row_numbered}
use Rattle.opt_steps.specs.FactsEdges.{TakesMarkedEdges}
use Rattle.opt_steps.proofs.facts_edges.take_marked.Given as goal

abbrev pub invariant-loop-index : goal.invariant-loop-index
invariant-loop-index g l = TakesMarkedEdges l.problem l.number (row_numbered l.problem.rows l.number) l.marks l.index l.initial.taken l.taken l.initial.found l.found
