use Rattle.std.proofs.Common.{◌≡◌, map}
use Rattle.std.specs.List.{range_with_len}
use Rattle.ir_formats.specs.Given.{is_in}
use Rattle.ir_formats.proofs.given.follows.Given as goal

abbrev pub invariant-loop-column : goal.invariant-loop-column
invariant-loop-column l = l.follows.items ≡ map (is_in l.part.follows.now) (range_with_len 0 l.column)
