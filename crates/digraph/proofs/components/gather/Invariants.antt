use Rattle.digraph.specs.Graph.{successors}
use Rattle.digraph.specs.Work.{left}
use Rattle.digraph.proofs.Gathering.{IsGathering}
use Rattle.digraph.proofs.components.gather.Given as goal

abbrev pub invariant-loop-node : goal.invariant-loop-node
invariant-loop-node l = IsGathering (successors l.reverse) l.root l.fn.work l.work l.part.items

abbrev pub decreases-loop-node : goal.decreases-loop-node
decreases-loop-node l = left l.work
