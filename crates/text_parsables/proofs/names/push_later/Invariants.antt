use Rattle.std.proofs.Common.{◌≡◌, ◌++◌, length, encode_utf8_all}
use Rattle.std.specs.List.{take_while}
use Rattle.std.specs.String.{string_bytes}
use Rattle.ir_names.specs.Text.{is_later_code}
use Rattle.text_streams.specs.declared.position.Position.{Position}
use Rattle.text_streams.specs.Positions.{left, LiesBehind}
use Rattle.text_parsables.proofs.names.push_later.Given as goal

-- with the characters from here on the text is what it has to be, and what lies behind them lies behind all of them
abbrev pub invariant-loop-character : goal.invariant-loop-character
invariant-loop-character l =
    (string_bytes l.text ++ encode_utf8_all (take_while is_later_code (left l.position))
    ≡ string_bytes l.fn.text ++ encode_utf8_all (take_while is_later_code (left l.fn.position)))
    × ((to : Position) → LiesBehind l.position to (take_while is_later_code (left l.position)) → LiesBehind l.fn.position to (take_while is_later_code (left l.fn.position)))

abbrev pub decreases-loop-character : goal.decreases-loop-character
decreases-loop-character l = length (left l.position)
