use Rattle.digraph.specs.Work.{left}
use Rattle.digraph.proofs.Searching.{Searches}
use Rattle.digraph.proofs.reach.reached.Given as goal

abbrev pub invariant-loop-node : goal.invariant-loop-node
invariant-loop-node l = Searches l.graph l.entry l.work

abbrev pub decreases-loop-node : goal.decreases-loop-node
decreases-loop-node l = left l.work
