use Rattle.std.proofs.Common.{rules}
use Rattle.ir_graph.proofs.Numbers.{set_more}
use Rattle.ir_graph.proofs.Rows.{row_whole}
use Rattle.ir_graph.proofs.numbering.set_of.Goals as goal

pub loop-node-preserved : goal.loop-node-preserved
loop-node-preserved g c = set_more g.N.PartialEq.eq c.requires.same c.args.nodes.now c.requires.distinct c.loop-node.set.keys _ c.loop-node.node-index c.node-item.result c.loop-node-test.true c.node-item.is c.in_ok-insert.ensures.keys c.loop-node.invariant

pub returns : goal.returns
returns g c = row_whole c.args.nodes.now c.loop-node.set.keys c.loop-node.node-index (search rules) c.loop-node.invariant
