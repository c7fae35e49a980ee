use Rattle.std.proofs.Common.{◌≡◌, ◌+◌, length, IfSome}
use Rattle.ir_entities.specs.Shape.{IsInside}
use Rattle.ir_entities.specs.Forest.{HoldsInUse, shape_of}
use Rattle.ir_entities.specs.Walk.{places_from, walk_of, ops_among}
use Rattle.ir_entities.proofs.forest.Forest.count_ops_inside.Given as goal

abbrev pub invariant-places : goal.invariant-places
invariant-places g l = (l.count + length (ops_among (places_from l.at (walk_of l.self l.x))) ≡ length (ops_among (walk_of l.self l.x))) × IfSome l.at (λ k. HoldsInUse l.self k × IsInside (shape_of l.self) l.x k)

abbrev pub decreases-places : goal.decreases-places
decreases-places g l = length (places_from l.at (walk_of l.self l.x))
