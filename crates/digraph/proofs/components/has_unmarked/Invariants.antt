use Rattle.std.proofs.Common.{ℕ, ◌<◌, get_or}
use Rattle.digraph.specs.Marks.{IsMarked}
use Rattle.digraph.proofs.components.has_unmarked.Given as goal

abbrev pub invariant-loop-node : goal.invariant-loop-node
invariant-loop-node l = (k : ℕ) → k < l.node-index → IsMarked l.marked (get_or l.nodes k 0)
