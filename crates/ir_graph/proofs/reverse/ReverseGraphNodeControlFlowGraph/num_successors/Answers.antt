use Rattle.std.proofs.Common.{subst}
use Rattle.std.specs.Prelude.{Contains}
use Rattle.ir_graph.specs.Reverse.{reverse_nodes}
use Rattle.ir_graph.specs.ReverseLaws.{in_node}
use Rattle.ir_graph.proofs.reverse.ReverseGraphNodeControlFlowGraph.num_successors.Goals as goal

pub num_predecessors-requires-clause-node : goal.num_predecessors-requires-clause-node
num_predecessors-requires-clause-node g c =
    let nodes = g.G.ControlFlowGraph.nodes_of c.args.self.now.original.now c.args.ctx.now in in_node nodes c.in-Real.node (subst (Contains (reverse_nodes nodes)) c.in-Real.is c.requires.node)
