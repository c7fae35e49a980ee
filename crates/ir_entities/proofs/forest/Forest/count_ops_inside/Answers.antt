use Rattle.std.proofs.Common.{arith, ap, length, ◌≡◌, Some, List}
use Rattle.ir_entities.specs.declared.forest.Place.{Place}
use Rattle.ir_entities.specs.Shape.{itself}
use Rattle.ir_entities.specs.Walk.{ops_among, walk_of, places_from}
use Rattle.ir_entities.proofs.forest.Forest.count_ops_inside.Goals as goal

pub places-init : goal.places-init
places-init g c =
    let all : length (ops_among (places_from (Some c.args.x) (walk_of c.args.self.now c.args.x))) ≡ length (ops_among (walk_of c.args.self.now c.args.x)) = ap (λ (k : List Place). length (ops_among k)) c.know_walk.ensures.begins in
    (omega (arith, all), (c.requires, itself))
