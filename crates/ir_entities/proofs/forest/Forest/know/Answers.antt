use Rattle.ir_entities.specs.Forest.{shape_of}
use Rattle.ir_entities.proofs.Climb.{forest_seen, no_cycle}
use Rattle.ir_entities.proofs.forest.Forest.know.Goals as goal

pub returns-clause-no_cycle : goal.returns-clause-no_cycle
returns-clause-no_cycle g c e d = no_cycle (shape_of c.args.self.now) e ((forest_seen _ c.args.self.now c.self.view_is c.self.invariant).grounded e) d
