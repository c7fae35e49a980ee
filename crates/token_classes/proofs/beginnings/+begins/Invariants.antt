use Rattle.std.proofs.Common.{◌≡◌, drop}
use Rattle.ir_print.specs.Formats.{steps_of, choices_of}
use Rattle.ir_format_checks.specs.Decided.{all_begin, one_begins}
use Rattle.token_classes.specs.Classes.{is_lexeme_of}
use Rattle.token_classes.proofs.beginnings.+begins.Given as goal

abbrev pub invariant-all_begin-loop-directive : goal.invariant-all_begin-loop-directive
invariant-all_begin-loop-directive l = all_begin (is_lexeme_of l.token) (steps_of (drop l.directive-index l.format)) ≡ all_begin (is_lexeme_of l.token) (steps_of l.format)

abbrev pub invariant-begins-loop-format : goal.invariant-begins-loop-format
invariant-begins-loop-format l = one_begins (is_lexeme_of l.token) (choices_of (drop l.format-index l.alternatives)) ≡ one_begins (is_lexeme_of l.token) (choices_of l.alternatives)
