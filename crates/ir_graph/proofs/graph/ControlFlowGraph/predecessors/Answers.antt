use Rattle.std.proofs.Common.{rules}
use Rattle.ir_graph.proofs.Rows.{row_next, row_whole}
use Rattle.ir_graph.proofs.graph.ControlFlowGraph.predecessors.Goals as goal

pub loop-index-preserved : goal.loop-index-preserved
loop-index-preserved g c = row_next (g.Self.ControlFlowGraph.predecessors_of c.args.self.now c.args.ctx.now c.args.node.now) c.loop-index.row.items _ c.loop-index.index _ c.get_predecessor.ensures c.in_ok-push.ensures.items c.loop-index.invariant

pub returns : goal.returns
returns g c = row_whole (g.Self.ControlFlowGraph.predecessors_of c.args.self.now c.args.ctx.now c.args.node.now) c.loop-index.row.items c.loop-index.index (search rules) c.loop-index.invariant
