use Rattle.std.proofs.Common.{◌≤◌, ◌-◌, length}
use Rattle.ir_characters.specs.Texts.{codes_of}
use Rattle.ir_tokens.specs.Tokens.{is_digit, AreAllOfKind}
use Rattle.ir_tokens.proofs.scan.digits_end.Given as goal

abbrev pub invariant-loop-at : goal.invariant-loop-at
invariant-loop-at l = (l.from ≤ l.at) × (l.at ≤ length (codes_of l.chars)) × AreAllOfKind is_digit (codes_of l.chars) l.from l.at

abbrev pub decreases-loop-at : goal.decreases-loop-at
decreases-loop-at l = length (codes_of l.chars) - l.at
