use Rattle.std.proofs.Common.{get_or, refl}
use Rattle.ir_graph.proofs.Sinking.{marks_more}
use Rattle.ir_graph.proofs.sinks.mark_all.Goals as goal

pub loop-node-preserved : goal.loop-node-preserved
loop-node-preserved c = marks_more c.args.marks.now.items c.loop-node.marks.items c.args.nodes.now c.loop-node.node-index (get_or c.args.nodes.now c.loop-node.node-index 0) c.loop-node-test.true refl
    (c.requires c.loop-node.node-index 0 c.loop-node-test.true) c.loop-node.invariant
