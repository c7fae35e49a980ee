use Rattle.std.proofs.Common.{◌≡◌, take}
use Rattle.digraph.specs.Visits.{joined}
use Rattle.ir_graph.specs.Orders.{lists_of}
use Rattle.ir_graph.proofs.orders.concatenated.Given as goal

abbrev pub invariant-loop-part : goal.invariant-loop-part
invariant-loop-part g l = l.order.items ≡ joined (lists_of (take l.part-index l.parts))
