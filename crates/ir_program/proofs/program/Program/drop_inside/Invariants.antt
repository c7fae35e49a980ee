use Rattle.std.proofs.Common.{length}
use Rattle.ir_entities.specs.Walk.{places_from, walk_of}
use Rattle.ir_program.proofs.erased.DropWalks.{HasCome}
use Rattle.ir_program.proofs.program.Program.drop_inside.Given as goal

abbrev pub invariant-places : goal.invariant-places
invariant-places g l = HasCome l.fn.self l.self l.x l.at

abbrev pub decreases-places : goal.decreases-places
decreases-places g l = length (places_from l.at (walk_of l.fn.self.forest l.x))
