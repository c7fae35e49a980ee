use Rattle.std.proofs.Common.{length}
use Rattle.std.specs.List.{take_while}
use Rattle.std.specs.Char.{is_whitespace}
use Rattle.text_streams.specs.declared.position.Position.{Position}
use Rattle.text_streams.specs.Positions.{left, LiesBehind}
use Rattle.text_streams.proofs.position.Position.skip_spaces.Given as goal

-- what lies behind the white space from here on lies behind all of it
abbrev pub invariant-loop-character : goal.invariant-loop-character
invariant-loop-character l = (to : Position) →
    LiesBehind l.position to (take_while is_whitespace (left l.position)) → LiesBehind l.fn.self to (take_while is_whitespace (left l.fn.self))

abbrev pub decreases-loop-character : goal.decreases-loop-character
decreases-loop-character l = length (left l.position)
