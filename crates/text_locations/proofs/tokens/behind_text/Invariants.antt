use Rattle.std.proofs.Common.{◌≡◌, length, chars}
use Rattle.text_streams.specs.declared.position.Position.{Position}
use Rattle.text_streams.specs.Positions.{left, LiesBehind}
use Rattle.text_locations.specs.Tokens.{behind_text}
use Rattle.text_locations.proofs.tokens.behind_text.Given as goal

-- what is behind the text is what is behind the rest of it here, and what lies behind that lies behind all of it
abbrev pub invariant-loop-expected : goal.invariant-loop-expected
invariant-loop-expected l =
    (behind_text (left l.token) (left l.position) ≡ behind_text (chars l.fn.text) (left l.fn.position))
    × ((to : Position) → LiesBehind l.position to (left l.token) → LiesBehind l.fn.position to (chars l.fn.text))

abbrev pub decreases-loop-expected : goal.decreases-loop-expected
decreases-loop-expected l = length (left l.token)
