use Rattle.std.proofs.Common.{◌≡◌, ◌≤◌, ◌+◌, drop}
use Rattle.ir_characters.specs.Texts.{codes_of}
use Rattle.ir_tokens.specs.Tokens.{place, place_from}
use Rattle.ir_tokens.proofs.tokens.place_after.Given as goal

abbrev pub invariant-loop-place : goal.invariant-loop-place
invariant-loop-place l = (place_from l.line l.column (drop l.place (codes_of l.front)) ≡ place (codes_of l.front)) × (l.line ≤ l.place + 1) × (l.column ≤ l.place + 1)
