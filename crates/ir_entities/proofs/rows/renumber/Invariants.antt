use Rattle.std.proofs.Common.{◌≡◌, ◌≤◌}
use Rattle.ir_entities.specs.Uses.{place_of}
use Rattle.ir_entities.proofs.RowWalks.{RenumbersTo}
use Rattle.ir_entities.proofs.rows.renumber.Given as goal

abbrev pub invariant-loop-index : goal.invariant-loop-index
invariant-loop-index g l = RenumbersTo (place_of l.fn.uses) (place_of l.uses) l.row l.fn.from l.index × (l.uses.definitions ≡ l.fn.uses.definitions) × (l.fn.from ≤ l.index)
