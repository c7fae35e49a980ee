use Rattle.std.proofs.Common.{◌≡◌, take}
use Rattle.ir_graph.specs.Reverse.{reverse_nodes}
use Rattle.ir_graph.proofs.reverse.ReverseGraphNodeControlFlowGraph.nodes.Given as goal

abbrev pub invariant-loop-node : goal.invariant-loop-node
invariant-loop-node g l = l.nodes.items ≡ reverse_nodes (take l.node-index l.node-items)
