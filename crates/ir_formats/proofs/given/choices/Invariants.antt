use Rattle.std.proofs.Common.{◌≡◌, map}
use Rattle.std.specs.List.{range_with_len}
use Rattle.ir_formats.specs.Given.{rule_at}
use Rattle.ir_formats.proofs.given.choices.Given as goal

abbrev pub invariant-loop-column : goal.invariant-loop-column
invariant-loop-column l = l.choices.items ≡ map (rule_at l.part.choices.now) (range_with_len 0 l.column)
