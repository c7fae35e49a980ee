use Rattle.std.proofs.Common.{rules}
use Rattle.ir_graph.proofs.Parts.{joined_more}
use Rattle.ir_graph.proofs.orders.concatenated.Goals as goal

pub loop-part-preserved : goal.loop-part-preserved
loop-part-preserved g c = joined_more c.args.parts.now c.loop-part.part-index c.part-item.result c.loop-part.order.items c.extend_from_slice.new.self.items c.loop-part-test.true c.part-item.is (search rules) c.loop-part.invariant
