-- A place in a text without a name, as a location.
use Rattle.std.specs.Prelude.{ℕ, ◌≡◌}
use Rattle.ir_locations.specs.declared.location.Location.{Location}
use Rattle.ir_locations.specs.declared.location.Location.TheVariants.{SrcPos}
use Rattle.ir_locations.specs.declared.source.Source.TheVariants.{InMemory}

-- the location is this line and column of a text in memory
abbrev pub IsPlaceInMemory : {A : Type 0} → ℕ × ℕ → Location A → Type 0
IsPlaceInMemory place location = location ≡ SrcPos InMemory place.0 place.1
