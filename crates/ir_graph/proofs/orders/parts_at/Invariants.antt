use Rattle.std.proofs.Common.{take}
use Rattle.ir_graph.specs.Graphs.{AreNamedParts}
use Rattle.ir_graph.specs.Orders.{lists_of}
use Rattle.ir_graph.proofs.orders.parts_at.Given as goal

abbrev pub invariant-loop-part : goal.invariant-loop-part
invariant-loop-part g l = AreNamedParts l.nodes (lists_of (take l.part-index l.parts)) (lists_of l.rows.items)
