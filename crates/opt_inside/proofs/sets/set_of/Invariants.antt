use Rattle.std.proofs.Common.{◌≡◌, take}
use Rattle.opt_inside.proofs.sets.set_of.Given as goal

abbrev pub invariant-loop-item : goal.invariant-loop-item
invariant-loop-item g l = l.set.keys ≡ take l.item-index l.items
