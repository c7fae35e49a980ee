use denote.Text.{Utf8}
use denote.Shadow.{shadow}
use Rattle.std.proofs.Common.{◌≡◌, ◌++◌, length}
use Rattle.std.specs.String.{string_bytes}
use Rattle.outlined_writing.specs.Bare.{AreNoNames}
use Rattle.outlined_writing.proofs.names.push_named.Given as goal

-- without names, what was written and the text that is left are the text
abbrev pub invariant-loop-sign : goal.invariant-loop-sign
invariant-loop-sign l = shadow (Utf8 l.rest)
    × (AreNoNames l.names → string_bytes l.out ++ l.rest ≡ string_bytes l.fn.out ++ l.fn.text)

abbrev pub decreases-loop-sign : goal.decreases-loop-sign
decreases-loop-sign l = length l.rest
