use Rattle.digraph.proofs.Reversing.{Turned}
use Rattle.digraph.proofs.transpose.transposed.Given as goal

abbrev pub invariant-loop-node : goal.invariant-loop-node
invariant-loop-node l = Turned l.graph l.reverse.items l.node
