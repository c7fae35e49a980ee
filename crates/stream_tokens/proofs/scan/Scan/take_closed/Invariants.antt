use Rattle.std.proofs.Common.{◌≡◌, ℕ, ◌-◌, length}
use Rattle.ir_tokens.specs.Tokens.{ClosesText}
use Rattle.text_streams.specs.Positions.{left}
use Rattle.stream_tokens.specs.Lexemes.{Stands}
use Rattle.stream_tokens.proofs.scan.Scan.take_closed.Given as goal

-- a text closes from here on where it closes from the first place on
abbrev pub invariant-loop-c : goal.invariant-loop-c
invariant-loop-c l = (l.self.start ≡ l.fn.self.start) × Stands l.self
    × ((j : ℕ) → ClosesText (left l.fn.self.start) (length l.self.text.items) j → ClosesText (left l.fn.self.start) (length l.fn.self.text.items) j)
    × ((j : ℕ) → ClosesText (left l.fn.self.start) (length l.fn.self.text.items) j → ClosesText (left l.fn.self.start) (length l.self.text.items) j)

abbrev pub decreases-loop-c : goal.decreases-loop-c
decreases-loop-c l = length (left l.self.start) - length l.self.text.items
