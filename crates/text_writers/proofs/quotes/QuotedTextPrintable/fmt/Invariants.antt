use denote.Shadow.{shadow}
use denote.Text.{Utf8}
use Rattle.std.proofs.Common.{◌≡◌, ◌++◌, ◌∷◌, length, encode_utf8_all, chars}
use Rattle.ir_print.specs.Layout.{escaped}
use Rattle.text_writers.proofs.quotes.QuotedTextPrintable.fmt.Given as goal

-- with the characters that are left all are there, behind the first quote
abbrev pub invariant-loop-character : goal.invariant-loop-character
invariant-loop-character g l =
    shadow (Utf8 l.rest)
    × (g.W.TextWriter.written l.out ++ encode_utf8_all (escaped (chars l.rest)) ≡ g.W.TextWriter.written l.fn.out ++ encode_utf8_all (34 ∷ escaped (chars l.fn.self.text.now)))

abbrev pub decreases-loop-character : goal.decreases-loop-character
decreases-loop-character g l = length (chars l.rest)
