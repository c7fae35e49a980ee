use Rattle.std.proofs.Common.{◌≡◌, ◌++◌}
use Rattle.ir_print.specs.Layout.{line}
use Rattle.text_writers.proofs.lines.fmt_indented_newline.Given as goal

-- the line has the spaces so far
abbrev pub invariant-loop : goal.invariant-loop
invariant-loop g l = g.W.TextWriter.written l.out ≡ g.W.TextWriter.written l.fn.out ++ line l.counter
