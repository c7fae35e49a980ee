use Rattle.std.proofs.Common.{◌≡◌, drop}
use Rattle.ir_print.specs.Formats.{steps_of, choices_of}
use Rattle.ir_format_checks.specs.Test.{is_decided, are_decided}
use Rattle.ir_format_checks.specs.Values.{classes_of}
use Rattle.ir_format_checks.proofs.decided.+decided.Given as goal

abbrev pub invariant-all_decided-loop-index : goal.invariant-all_decided-loop-index
invariant-all_decided-loop-index l = is_decided (steps_of (drop l.index l.format)) (classes_of l.outer) ≡ is_decided (steps_of l.format) (classes_of l.outer)

abbrev pub invariant-is_decided-loop-index : goal.invariant-is_decided-loop-index
invariant-is_decided-loop-index l = are_decided (choices_of (drop l.index l.alternatives)) (classes_of l.next) ≡ are_decided (choices_of l.alternatives) (classes_of l.next)
