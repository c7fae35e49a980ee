use Rattle.std.proofs.Common.{◌≡◌, ◌++◌}
use Rattle.std.specs.Prelude.{replicate}
use Rattle.std.specs.String.{string_bytes}
use Rattle.text_printing.proofs.words.print_line.Given as goal

abbrev pub invariant-loop-column : goal.invariant-loop-column
invariant-loop-column l = string_bytes l.out ≡ string_bytes l.initial.out ++ replicate l._column 32
