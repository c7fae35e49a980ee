use Rattle.std.proofs.Common.{◌≡◌, take, true}
use lib.Pointwise.{pointwise}
use Rattle.ir_locations.specs.contracts.location.LocationPartialEq.TheImpl.{ghosts}
use Rattle.ir_locations.proofs.location.Location.+try_clone.Given as goal

-- the copies so far equal the locations so far, and the metadata is there
abbrev pub invariant-loop-location : goal.invariant-loop-location
invariant-loop-location g l =
    (pointwise (ghosts g.row.A g.A.PartialEq g.A.PartialEq-dict).eq l.copies.items (take l.location-index l.location-items) ≡ true)
    × (l.metadata ≡ l.initial.metadata)
