use Rattle.digraph.specs.Transpose.{IsEmptyRows}
use Rattle.edge_graphs.proofs.edges.empty_rows.Given as goal

abbrev pub invariant-loop-row : goal.invariant-loop-row
invariant-loop-row l = IsEmptyRows l.rows.items l._row
