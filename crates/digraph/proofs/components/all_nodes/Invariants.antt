use Rattle.std.proofs.Common.{ℕ, ◌<◌, All}
use Rattle.std.specs.Prelude.{Contains}
use Rattle.digraph.proofs.components.all_nodes.Given as goal

abbrev pub invariant-loop-node : goal.invariant-loop-node
invariant-loop-node l = ((k : ℕ) → k < l.node → Contains l.nodes.items k) × All (λ n. n < l.count) l.nodes.items
