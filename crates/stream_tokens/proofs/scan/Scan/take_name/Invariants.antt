use Rattle.std.proofs.Common.{◌≡◌, ◌≤◌, ◌-◌, length}
use Rattle.ir_tokens.specs.Tokens.{is_name_char, AreAllOfKind}
use Rattle.text_streams.specs.Positions.{left}
use Rattle.stream_tokens.specs.Lexemes.{Stands}
use Rattle.stream_tokens.proofs.scan.Scan.take_name.Given as goal

abbrev pub invariant-loop-self : goal.invariant-loop-self
invariant-loop-self l = (l.self.start ≡ l.fn.self.start) × Stands l.self × (length l.fn.self.text.items ≤ length l.self.text.items)
    × AreAllOfKind is_name_char (left l.fn.self.start) (length l.fn.self.text.items) (length l.self.text.items)

abbrev pub decreases-loop-self : goal.decreases-loop-self
decreases-loop-self l = length (left l.self.start) - length l.self.text.items
