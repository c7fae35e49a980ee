use Rattle.std.proofs.Common.{take}
use Rattle.digraph.specs.Work.{Adds}
use Rattle.digraph.proofs.worklist.Worklist.add_all.Given as goal

abbrev pub invariant-loop-node : goal.invariant-loop-node
invariant-loop-node l = Adds l.initial.self l.self (take l.node-index l.nodes)
