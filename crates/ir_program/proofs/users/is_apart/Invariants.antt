use Rattle.std.proofs.Common.{length}
use Rattle.ir_entities.specs.Walk.{places_from, walk_of}
use Rattle.ir_program.proofs.used.UserWalks.{IsApartUpTo}
use Rattle.ir_program.proofs.erased.ForgetWalks.{IsAt}
use Rattle.ir_program.proofs.users.is_apart.Given as goal

abbrev pub invariant-places : goal.invariant-places
invariant-places g l = record {
  at : IsAt l.forest l.x l.at;
  apart : IsApartUpTo l.forest l.values l.targets l.x (places_from l.at (walk_of l.forest l.x));
}

abbrev pub decreases-places : goal.decreases-places
decreases-places g l = length (places_from l.at (walk_of l.forest l.x))
