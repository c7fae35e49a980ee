use Rattle.std.proofs.Common.{take}
use Rattle.ir_graph.specs.Graphs.{AreNodeNumbers}
use Rattle.ir_graph.proofs.numbering.nodes_at.Given as goal

abbrev pub invariant-loop-id : goal.invariant-loop-id
invariant-loop-id g l = AreNodeNumbers l.nodes (take l.id-index l.ids) l.row.items
