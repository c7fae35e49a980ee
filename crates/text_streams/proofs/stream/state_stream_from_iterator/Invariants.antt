use Rattle.std.proofs.Common.{◌≡◌, encode_utf8_all}
use Rattle.std.specs.String.{string_bytes}
use Rattle.text_streams.proofs.stream.state_stream_from_iterator.Given as goal

-- the text has the characters so far
abbrev pub invariant-loop-character : goal.invariant-loop-character
invariant-loop-character g l = string_bytes l.text ≡ encode_utf8_all l.yielded
