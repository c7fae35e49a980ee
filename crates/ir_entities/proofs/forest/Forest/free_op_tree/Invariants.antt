use Rattle.std.proofs.Common.{◌≤◌}
use Rattle.ir_entities.specs.Prune.{IsPruned, live_in}
use Rattle.ir_entities.specs.declared.forest.Place.TheVariants.{Op}
use Rattle.ir_entities.proofs.forest.Forest.free_op_tree.Given as goal

abbrev pub invariant-parts : goal.invariant-parts
invariant-parts g l = IsPruned l.fn.self l.self (Op l.op) × (live_in l.self ≤ live_in l.fn.self)

abbrev pub decreases-parts : goal.decreases-parts
decreases-parts g l = live_in l.self
