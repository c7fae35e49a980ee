use Rattle.std.proofs.Common.{◌≡◌, drop}
use Rattle.ir_locations.specs.Sources.{mentions, mentions_of_all, found_in, see_all}
use Rattle.ir_locations.specs.contracts.source.SourcePartialEq.TheImpl.{eq-value}
use Rattle.ir_locations.proofs.location.Location.+find_source.Given as goal

-- what is found with the sources of the locations that are left is what is found in all
abbrev pub invariant-loop-location : goal.invariant-loop-location
invariant-loop-location g l =
    see_all eq-value.it (found_in l.found) (mentions_of_all (drop l.location-index l.location-items))
    ≡ see_all eq-value.it (found_in l.fn.found) (mentions l.fn.self)
