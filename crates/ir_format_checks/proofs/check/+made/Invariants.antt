use Rattle.std.proofs.Common.{◌≡◌, drop}
use Rattle.ir_print.specs.Formats.{steps_of, choices_of}
use Rattle.ir_format_checks.specs.Test.{are_made, all_made}
use Rattle.ir_format_checks.proofs.check.+made.Given as goal

abbrev pub invariant-are_made-loop-directive : goal.invariant-are_made-loop-directive
invariant-are_made-loop-directive l = are_made l.sort (steps_of (drop l.directive-index l.format)) ≡ are_made l.sort (steps_of l.format)

abbrev pub invariant-is_made-loop-format : goal.invariant-is_made-loop-format
invariant-is_made-loop-format l = all_made l.sort (choices_of (drop l.format-index l.alternatives)) ≡ all_made l.sort (choices_of l.alternatives)
