use Rattle.std.proofs.Common.{ℕ, ◌≤◌, ◌-◌, ◌+◌, length}
use Rattle.ir_characters.specs.Texts.{codes_of}
use Rattle.ir_tokens.specs.Tokens.{ClosesText}
use Rattle.ir_tokens.proofs.scan.closing.Given as goal

abbrev pub invariant-loop-at : goal.invariant-loop-at
invariant-loop-at l = (l.at ≤ length (codes_of l.chars) + 1) × ((j : ℕ) → ClosesText (codes_of l.chars) l.at j → ClosesText (codes_of l.chars) l.from j) × ((j : ℕ) → ClosesText (codes_of l.chars) l.from j → ClosesText (codes_of l.chars) l.at j)

abbrev pub decreases-loop-at : goal.decreases-loop-at
decreases-loop-at l = length (codes_of l.chars) - l.at
