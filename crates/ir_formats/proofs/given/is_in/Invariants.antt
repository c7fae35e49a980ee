use Rattle.std.proofs.Common.{◌≡◌, drop}
use Rattle.ir_formats.specs.Given.{is_in}
use Rattle.ir_formats.proofs.given.is_in.Given as goal

abbrev pub invariant-loop-known : goal.invariant-loop-known
invariant-loop-known l = is_in (drop l.known-index l.columns) l.column ≡ is_in l.columns l.column
