use Rattle.std.proofs.Common.{◌+◌, ◌*◌, List}
use Rattle.ir_entities.specs.declared.forest.Place.{Place}
use Rattle.ir_entities.specs.Forest.{shape_of}
use Rattle.ir_entities.specs.Walk.{IsRest}
use Rattle.ir_entities.proofs.Climb.{Climbs, steps}
use Rattle.ir_entities.proofs.forest.Forest.next_after.Given as goal

abbrev pub invariant-up : goal.invariant-up
invariant-up g l = Climbs l.self l.x l.fn.at l.from l.left × ((rest : List Place) → IsRest (shape_of l.self) l.x l.fn.at rest → IsRest (shape_of l.self) l.x l.from rest)

abbrev pub decreases-up : goal.decreases-up
decreases-up g l = 3 * l.left + steps l.from
