use Rattle.std.proofs.Common.{◌≡◌}
use Rattle.edge_graphs.specs.Numbers.{numbers}
use Rattle.edge_graphs.proofs.edges.EdgesControlFlowGraphNothing.nodes.Given as goal

abbrev pub invariant-loop-node : goal.invariant-loop-node
invariant-loop-node l = l.nodes.items ≡ numbers l.node
