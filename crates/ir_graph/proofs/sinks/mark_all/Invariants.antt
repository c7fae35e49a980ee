use Rattle.std.proofs.Common.{take}
use Rattle.ir_graph.specs.Sinks.{MarksAll}
use Rattle.ir_graph.proofs.sinks.mark_all.Given as goal

abbrev pub invariant-loop-node : goal.invariant-loop-node
invariant-loop-node l = MarksAll l.initial.marks.items l.marks.items (take l.node-index l.nodes)
