use Rattle.std.proofs.Common.{◌≡◌, take}
use Rattle.ir_graph.proofs.graph.ControlFlowGraph.successors.Given as goal

abbrev pub invariant-loop-index : goal.invariant-loop-index
invariant-loop-index g l = l.row.items ≡ take l.index (g.Self.ControlFlowGraph.successors_of l.self l.ctx l.node)
