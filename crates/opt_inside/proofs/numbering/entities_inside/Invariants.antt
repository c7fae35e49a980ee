use Rattle.opt_inside.specs.Numbered.{listed_in}
use Rattle.opt_inside.proofs.Counting.{IsNumberedUpTo}
use Rattle.opt_inside.proofs.numbering.entities_inside.Given as goal

abbrev pub invariant-loop-node : goal.invariant-loop-node
invariant-loop-node g l = IsNumberedUpTo l.program l.fn.op (listed_in l.found) l.node-iterator
