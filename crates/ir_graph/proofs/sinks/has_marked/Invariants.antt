use Rattle.std.proofs.Common.{ℕ, ◌<◌, get_or}
use Rattle.digraph.specs.Marks.{IsMarked}
use Rattle.ir_graph.proofs.sinks.has_marked.Given as goal

abbrev pub invariant-loop-node : goal.invariant-loop-node
invariant-loop-node l = (k : ℕ) → k < l.node-index → IsMarked l.marks (get_or l.row k 0) → ⊥
