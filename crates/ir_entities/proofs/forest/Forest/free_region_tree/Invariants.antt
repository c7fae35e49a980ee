use Rattle.std.proofs.Common.{◌≤◌}
use Rattle.ir_entities.specs.Prune.{IsPruned, live_in}
use Rattle.ir_entities.specs.declared.forest.Place.TheVariants.{Region}
use Rattle.ir_entities.proofs.forest.Forest.free_region_tree.Given as goal

abbrev pub invariant-trees : goal.invariant-trees
invariant-trees g l = IsPruned l.fn.self l.self (Region l.region) × (live_in l.self ≤ live_in l.fn.self)

abbrev pub decreases-trees : goal.decreases-trees
decreases-trees g l = live_in l.self
