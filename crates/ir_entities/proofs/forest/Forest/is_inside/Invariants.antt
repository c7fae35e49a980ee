use Rattle.std.proofs.Common.{◌+◌, ◌*◌}
use Rattle.ir_entities.proofs.Climb.{Climbs, steps}
use Rattle.ir_entities.proofs.forest.Forest.is_inside.Given as goal

abbrev pub invariant-up : goal.invariant-up
invariant-up g l = Climbs l.self l.x l.fn.c l.at l.left

abbrev pub decreases-up : goal.decreases-up
decreases-up g l = 3 * l.left + steps l.at
