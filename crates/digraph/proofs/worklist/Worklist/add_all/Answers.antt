use Rattle.std.proofs.Common.{rules, get_or}
use Rattle.digraph.proofs.Marking.{added_next}
use Rattle.digraph.proofs.worklist.Worklist.add_all.Goals as goal

pub loop-node-preserved : goal.loop-node-preserved
loop-node-preserved c = added_next c.args.self.now c.loop-node.self c.add.new.self c.args.nodes.now c.loop-node.node-index (get_or c.args.nodes.now c.loop-node.node-index 0) c.loop-node-test.true (search rules) c.loop-node.invariant c.in_ok-add.ensures
