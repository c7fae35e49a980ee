use Rattle.std.proofs.Common.{take}
use Rattle.digraph.specs.Counts.{count_of}
use Rattle.opt_solvers.specs.DeadUses.{CountsItems}
use Rattle.opt_solvers.proofs.dead_uses.count_items.Given as goal

abbrev pub invariant-loop-item : goal.invariant-loop-item
invariant-loop-item l = CountsItems (λ x. count_of x (take l.item-index l.items)) l.initial.uses.items l.uses.items
