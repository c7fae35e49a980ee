use Rattle.std.proofs.Common.{◌+◌, ◌-◌}
use Rattle.kit_checks.specs.Naming.{KeepsNumbers}
use Rattle.kit_checks.proofs.walk_order.WalkOrder.make_room.Given as goal

abbrev pub invariant-loop-self : goal.invariant-loop-self
invariant-loop-self l = KeepsNumbers l.fn.self l.self

abbrev pub decreases-loop-self : goal.decreases-loop-self
decreases-loop-self l = l.slot + 1 - l.self.numbers.len
