use Rattle.std.proofs.Common.{take}
use Rattle.ir_graph.specs.Graphs.{AreNamedSccs}
use Rattle.ir_graph.proofs.components.sccs_at.Given as goal

abbrev pub invariant-loop-part : goal.invariant-loop-part
invariant-loop-part g l = AreNamedSccs l.nodes (take l.part-index l.parts) l.named.items
