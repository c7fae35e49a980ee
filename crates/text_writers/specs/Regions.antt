-- Regions, down to a limit of depth.
use Rattle.std.specs.Prelude.{ℕ, ◌≡◌, List, codes}
use Rattle.std.specs.Bool.{MatchBool}
use Rattle.text_writers.specs.declared.state.State.{State}
use Rattle.text_writers.specs.States.{entered, elides_regions}

-- `{..}` where the limit of depth is reached, and else what stands in the region, one region deeper
abbrev pub PrintsRegion : (State → List ℕ → Type 0) → State → List ℕ → Type 0
PrintsRegion prints state bytes = MatchBool (elides_regions state) (bytes ≡ codes "{..}") (prints (entered state) bytes)
