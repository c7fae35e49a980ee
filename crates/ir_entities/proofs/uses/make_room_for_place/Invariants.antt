use Rattle.std.proofs.Common.{◌≡◌, ◌-◌, ◌+◌}
use Rattle.ir_entities.proofs.uses.make_room_for_place.Given as goal

abbrev pub invariant-loop-threads : goal.invariant-loop-threads
invariant-loop-threads l = l.threads.lists ≡ l.fn.threads.lists

abbrev pub decreases-loop-threads : goal.decreases-loop-threads
decreases-loop-threads l = l.place + 1 - l.threads.nodes
