use Rattle.std.proofs.Common.{◌≡◌, drop}
use Rattle.ir_print.specs.Formats.{steps_of, choices_of}
use Rattle.ir_format_checks.specs.Decided.{all_begin, one_begins}
use Rattle.ir_format_checks.proofs.decided.+begins.Given as goal

abbrev pub invariant-all_begin-loop-directive : goal.invariant-all_begin-loop-directive
invariant-all_begin-loop-directive g l = all_begin (g.S.TokenSet.meets l.set) (steps_of (drop l.directive-index l.format)) ≡ all_begin (g.S.TokenSet.meets l.set) (steps_of l.format)

abbrev pub invariant-begins-loop-format : goal.invariant-begins-loop-format
invariant-begins-loop-format g l = one_begins (g.S.TokenSet.meets l.set) (choices_of (drop l.format-index l.alternatives)) ≡ one_begins (g.S.TokenSet.meets l.set) (choices_of l.alternatives)
