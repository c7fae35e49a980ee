use Rattle.kit_checks.proofs.Numbering.{IsNumberedUpTo}
use Rattle.kit_checks.proofs.walk_order.WalkOrder.inside.Given as goal

-- those that were seen are numbered
abbrev pub invariant-loop-node : goal.invariant-loop-node
invariant-loop-node g l = IsNumberedUpTo l.program l.fn.root l.order l.number l.node-iterator
