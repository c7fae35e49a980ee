use Rattle.std.proofs.Common.{◌≡◌, drop}
use Rattle.ir_print.specs.Formats.{steps_of, choices_of}
use Rattle.ir_format_checks.specs.Decided.{all_may_be_empty, one_may_be_empty}
use Rattle.token_classes.proofs.beginnings.+empty.Given as goal

abbrev pub invariant-all_may_be_empty-loop-directive : goal.invariant-all_may_be_empty-loop-directive
invariant-all_may_be_empty-loop-directive l = all_may_be_empty (steps_of (drop l.directive-index l.format)) ≡ all_may_be_empty (steps_of l.format)

abbrev pub invariant-may_be_empty-loop-format : goal.invariant-may_be_empty-loop-format
invariant-may_be_empty-loop-format l = one_may_be_empty (choices_of (drop l.format-index l.alternatives)) ≡ one_may_be_empty (choices_of l.alternatives)
