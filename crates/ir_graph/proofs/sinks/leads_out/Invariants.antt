use Rattle.std.proofs.Common.{ℕ, ◌<◌, get_or}
use Rattle.digraph.specs.Graph.{successors}
use Rattle.ir_graph.specs.Sinks.{AnyMarked}
use Rattle.ir_graph.proofs.sinks.leads_out.Given as goal

abbrev pub invariant-loop-node : goal.invariant-loop-node
invariant-loop-node l = (k : ℕ) → k < l.node-index → AnyMarked l.marks (successors l.graph (get_or l.nodes k 0)) → ⊥
