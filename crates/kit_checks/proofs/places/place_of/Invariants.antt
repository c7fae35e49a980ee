use Rattle.kit_checks.proofs.Upward.{IsOnWay}
use Rattle.kit_checks.proofs.places.place_of.Given as goal

-- what is left is the way up from where the indices that were met lead down from
abbrev pub invariant-loop-node : goal.invariant-loop-node
invariant-loop-node g l = IsOnWay l.program l.root l.fn.op l.node-iterator l.children.items
