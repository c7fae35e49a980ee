use Rattle.std.proofs.Common.{take}
use Rattle.ir_graph.specs.Graphs.{AreNodeNumbers}
use Rattle.ir_graph.proofs.numbering.number_row.Given as goal

abbrev pub invariant-loop-node : goal.invariant-loop-node
invariant-loop-node g l = AreNodeNumbers l.set.keys l.ids.items (take l.node-index l.row)
