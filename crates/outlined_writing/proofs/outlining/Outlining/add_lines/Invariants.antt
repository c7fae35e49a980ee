use denote.Text.{Utf8}
use denote.Shadow.{shadow}
use Rattle.std.proofs.Common.{◌≡◌, ◌++◌, length}
use Rattle.std.specs.String.{string_bytes}
use Rattle.outlined_writing.specs.Bare.{IsBare}
use Rattle.outlined_writing.proofs.outlining.Outlining.add_lines.Given as goal

-- where nothing is left out, what was written and the lines that are left are the text, and no item was marked
abbrev pub invariant-loop-line : goal.invariant-loop-line
invariant-loop-line l = shadow (Utf8 l.rest)
    × (IsBare l.given → string_bytes l.self.text ++ l.rest ≡ string_bytes l.fn.self.text ++ l.fn.plain)
    × (IsBare l.given → l.self.entries ≡ l.fn.self.entries)

abbrev pub decreases-loop-line : goal.decreases-loop-line
decreases-loop-line l = length l.rest
