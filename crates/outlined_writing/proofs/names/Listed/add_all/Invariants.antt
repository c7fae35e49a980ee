use denote.Text.{Utf8}
use denote.Shadow.{shadow}
use Rattle.std.proofs.Common.{◌≡◌, length}
use Rattle.outlined_writing.specs.Bare.{AreNoNames}
use Rattle.outlined_writing.proofs.names.Listed.add_all.Given as goal

-- without names none was given
abbrev pub invariant-loop-sign : goal.invariant-loop-sign
invariant-loop-sign l = shadow (Utf8 l.rest) × (AreNoNames l.names → l.self.is_given ≡ l.fn.self.is_given)

abbrev pub decreases-loop-sign : goal.decreases-loop-sign
decreases-loop-sign l = length l.rest
