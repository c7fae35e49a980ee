use Rattle.std.proofs.Common.{length}
use Rattle.ir_entities.specs.Forest.{shape_of}
use Rattle.ir_entities.specs.Walk.{places_from, walk_of}
use Rattle.ir_program.specs.Erases.{value_place, block_place}
use Rattle.ir_program.proofs.erased.ForgetWalks.{IsAt, ForgetsUpTo}
use Rattle.ir_program.proofs.forgetting.forget_inside.Given as goal

abbrev pub invariant-places : goal.invariant-places
invariant-places g l = record {
  at : IsAt l.forest l.x l.at;
  values : ForgetsUpTo (shape_of l.forest) l.x value_place l.fn.values l.values (places_from l.at (walk_of l.forest l.x));
  targets : ForgetsUpTo (shape_of l.forest) l.x block_place l.fn.targets l.targets (places_from l.at (walk_of l.forest l.x));
}

abbrev pub decreases-places : goal.decreases-places
decreases-places g l = length (places_from l.at (walk_of l.forest l.x))
