use Rattle.std.proofs.Common.{◌≡◌}
use Rattle.ir_graph.specs.Orders.{lists_of}
use Rattle.ir_graph.proofs.Parts.{reversed_to}
use Rattle.ir_graph.proofs.orders.reverse_each.Given as goal

abbrev pub invariant-loop-part : goal.invariant-loop-part
invariant-loop-part g l = lists_of l.part-items ≡ reversed_to l.part-index (lists_of l.initial.part-items)
