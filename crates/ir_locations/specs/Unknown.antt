-- The unknown location.
use Rattle.std.specs.Prelude.{Bool, true, false}
use Rattle.ir_locations.specs.declared.location.Location.{Location}
use Rattle.ir_locations.specs.declared.location.Location.TheViews.{out-Location}
use Rattle.ir_locations.specs.declared.location.Location.TheOpen.{Location-F, Unknown}

-- whether one location, whatever is in it, says no source
abbrev pub unknown_step : {A X : Type 0} → Location-F A X → Bool
unknown_step Unknown = true
unknown_step _ = false

-- whether it is the unknown location
abbrev pub is_unknown : {A : Type 0} → Location A → Bool
is_unknown {A} location = unknown_step (out-Location A location)
