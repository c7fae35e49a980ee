use Rattle.ir_graph.proofs.Numbers.{RowsUpTo}
use Rattle.ir_graph.proofs.numbering.successor_rows.Given as goal

abbrev pub invariant-loop-node : goal.invariant-loop-node
invariant-loop-node g l = RowsUpTo (g.G.ControlFlowGraph.successors_of l.graph l.ctx) l.nodes l.rows.items l.node-index
