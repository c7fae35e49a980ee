use Rattle.std.proofs.Common.{◌≡◌}
use Rattle.ir_entities.specs.Uses.{place_of}
use Rattle.ir_entities.proofs.RowWalks.{ReleasesTo}
use Rattle.ir_entities.proofs.rows.release.Given as goal

abbrev pub invariant-loop-place : goal.invariant-loop-place
invariant-loop-place g l = ReleasesTo (place_of l.fn.uses) (place_of l.uses) l.row l.place-index × (l.uses.definitions ≡ l.fn.uses.definitions)
