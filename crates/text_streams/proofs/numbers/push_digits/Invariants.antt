use Rattle.std.proofs.Common.{◌≡◌, ◌++◌, length, encode_utf8_all}
use Rattle.std.specs.String.{string_bytes}
use Rattle.text_streams.specs.declared.position.Position.{Position}
use Rattle.text_streams.specs.Numbers.{digits_text}
use Rattle.text_streams.specs.Positions.{left, LiesBehind}
use Rattle.text_streams.proofs.numbers.push_digits.Given as goal

-- with the digits from here on the text is what it has to be, and what lies behind them lies behind all digits
abbrev pub invariant-loop-character : goal.invariant-loop-character
invariant-loop-character l =
    (string_bytes l.text ++ encode_utf8_all (digits_text l.radix (left l.position))
    ≡ string_bytes l.fn.text ++ encode_utf8_all (digits_text l.radix (left l.fn.position)))
    × ((to : Position) → LiesBehind l.position to (digits_text l.radix (left l.position)) → LiesBehind l.fn.position to (digits_text l.radix (left l.fn.position)))

abbrev pub decreases-loop-character : goal.decreases-loop-character
decreases-loop-character l = length (left l.position)
