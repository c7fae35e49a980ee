use Rattle.std.proofs.Common.{◌≡◌, ◌++◌, encode_utf8_all}
use Rattle.std.specs.String.{string_bytes}
use Rattle.ir_print.specs.Layout.{escaped}
use Rattle.text_printing.proofs.words.print_text.Given as goal

abbrev pub invariant-loop-c : goal.invariant-loop-c
invariant-loop-c l = string_bytes l.out ≡ string_bytes l.initial.out ++ encode_utf8_all (escaped l.yielded)
