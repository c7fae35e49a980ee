use Rattle.std.proofs.Common.{vec_len, length}
use Rattle.digraph.specs.Graph.{successors}
use Rattle.ir_graph.proofs.Sinking.{Ended}
use Rattle.ir_graph.proofs.sinks.sink_ends.Given as goal

abbrev pub invariant-parts : goal.invariant-parts
invariant-parts l = Ended (successors l.graph) (length l.graph) l.initial.parts.items l.parts.items l.marks.items l.ends.items

abbrev pub decreases-parts : goal.decreases-parts
decreases-parts l = vec_len l.parts
