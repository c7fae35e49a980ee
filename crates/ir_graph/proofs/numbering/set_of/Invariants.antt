use Rattle.std.proofs.Common.{◌≡◌, take}
use Rattle.ir_graph.proofs.numbering.set_of.Given as goal

abbrev pub invariant-loop-node : goal.invariant-loop-node
invariant-loop-node g l = l.set.keys ≡ take l.node-index l.nodes
