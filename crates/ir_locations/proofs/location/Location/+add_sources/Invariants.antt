use Rattle.std.proofs.Common.{◌≡◌, drop}
use Rattle.indexmap.specs.IndexSet.{insert_all}
use Rattle.ir_locations.specs.Sources.{lent, mentions, mentions_of_all}
use Rattle.ir_locations.specs.contracts.source.SourcePartialEq.TheImpl.{eq-value}
use Rattle.ir_locations.proofs.location.Location.+add_sources.Given as goal

-- with the sources of the locations that are left there are those of all
abbrev pub invariant-loop-location : goal.invariant-loop-location
invariant-loop-location g l =
    insert_all eq-value.it (lent l.found.keys) (mentions_of_all (drop l.location-index l.location-items))
    ≡ insert_all eq-value.it (lent l.fn.found.keys) (mentions l.self)
