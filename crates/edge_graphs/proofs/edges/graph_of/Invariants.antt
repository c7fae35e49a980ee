use Rattle.digraph.specs.Graph.{InRange}
use Rattle.edge_graphs.proofs.edges.graph_of.Given as goal

abbrev pub invariant-loop-from : goal.invariant-loop-from
invariant-loop-from l = InRange l.rows.items
