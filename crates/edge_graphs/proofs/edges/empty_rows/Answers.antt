use Rattle.std.proofs.Common.{rules}
use Rattle.digraph.proofs.Reversing.{empty_row_more}
use Rattle.edge_graphs.proofs.edges.empty_rows.Goals as goal

pub loop-row-preserved : goal.loop-row-preserved
loop-row-preserved c = empty_row_more c.loop-row.rows.items _ _ c.loop-row._row c.in_ok-push.ensures.items (search rules) c.loop-row.invariant
