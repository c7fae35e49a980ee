use Rattle.std.proofs.Common.{take}
use Rattle.opt_steps.specs.FactsEdges.{ForwardsAll}
use Rattle.opt_steps.proofs.facts_edges.forward_all.Given as goal

abbrev pub invariant-loop-index : goal.invariant-loop-index
invariant-loop-index g l = ForwardsAll (take l.index l.arguments) l.forwards l.operands l.initial.found l.found
