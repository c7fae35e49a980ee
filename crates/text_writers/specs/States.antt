-- Indentation, and how deep regions are printed.
use Rattle.std.specs.Prelude.{◌+◌, ◌-◌, ◌^◌, ◌==◌, min, Bool, false}
use Rattle.text_writers.specs.declared.state.State.{State}
use Rattle.text_writers.specs.declared.state.RegionPrintDepthLimit.{RegionPrintDepthLimit}
use Rattle.text_writers.specs.declared.state.RegionPrintDepthLimit.TheVariants.{Unlimited, Max}

-- a limit one region deeper: none stays none, and nothing is below 0
abbrev pub below : RegionPrintDepthLimit → RegionPrintDepthLimit
below Unlimited = Unlimited
below (Max depth) = Max (depth - 1)

-- a state whose lines begin one width deeper, at most at the greatest column
abbrev pub indented : State → State
indented s = record s { current_indent = min (s.current_indent + s.indent_width) (2 ^ 32 - 1) }

-- a state in a region
abbrev pub entered : State → State
entered s = record s { limit = below s.limit }

-- whether no more regions are printed
abbrev pub is_reached : RegionPrintDepthLimit → Bool
is_reached Unlimited = false
is_reached (Max depth) = depth == 0

abbrev pub elides_regions : State → Bool
elides_regions s = is_reached s.limit

-- a state at the start of a text
abbrev pub fresh : State
fresh = record { indent_width = 2; current_indent = 0; limit = Unlimited }
