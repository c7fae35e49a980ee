use Rattle.opt_rows.specs.OperationRows.{row_numbered}
use Rattle.opt_steps.specs.FactsEdges.{Marks}
use Rattle.opt_steps.proofs.facts_edges.mark_targets.Given as goal

abbrev pub invariant-loop-index : goal.invariant-loop-index
invariant-loop-index g l = Marks (g.F.Folding.answers l.folding) l.number (row_numbered l.problem.rows l.number) l.known l.index l.initial.marks.items l.marks.items
