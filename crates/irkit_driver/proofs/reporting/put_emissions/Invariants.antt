use Rattle.std.proofs.Common.{◌≡◌, ◌++◌, flat_map, take}
use Rattle.std.specs.String.{string_bytes}
use Rattle.irkit_running.specs.Reports.{emit_line}
use Rattle.irkit_driver.proofs.reporting.put_emissions.Given as goal

abbrev pub invariant-loop-number : goal.invariant-loop-number
invariant-loop-number l = string_bytes l.text ≡ string_bytes l.fn.text ++ flat_map emit_line (take l.number-index l.emissions)
