use Rattle.std.proofs.Common.{◌∙◌, ◌++◌, sym, ap, encode_utf8}
use Rattle.text_streams.proofs.PositionLemmas.{encode-push}
use Rattle.text_streams.proofs.stream.state_stream_from_iterator.Goals as goal

pub loop-character-preserved : goal.loop-character-preserved
loop-character-preserved g c =
    c.in_ok-push.ensures.bytes
    ∙ ap (λ bytes. bytes ++ encode_utf8 c.in-Some.character) c.loop-character.invariant
    ∙ sym (encode-push c.loop-character.yielded c.in-Some.character)
