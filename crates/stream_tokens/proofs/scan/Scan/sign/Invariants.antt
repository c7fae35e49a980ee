use Rattle.std.proofs.Common.{◌≡◌, ◌≤◌, ◌-◌, length}
use Rattle.stream_tokens.specs.Lexemes.{Stands}
use Rattle.stream_tokens.proofs.scan.Scan.sign.Given as goal

abbrev pub invariant-loop-self : goal.invariant-loop-self
invariant-loop-self l = (l.self.start ≡ l.fn.self.start) × Stands l.self × (length l.self.text.items ≤ 11)

abbrev pub decreases-loop-self : goal.decreases-loop-self
decreases-loop-self l = 11 - length l.self.text.items
