use Rattle.std.proofs.Common.{ap, arith, encode_utf8_all, sym, take, ◌++◌, ◌∙◌}
use Rattle.std.specs.Prelude.{encode_utf8, slice_index}
use Rattle.std.proofs.lemmas.List.{take_more}
use Rattle.ir_characters.specs.Texts.{codes_of}
use Rattle.text_streams.proofs.PositionLemmas.{encode-push}
use Rattle.irkit_outlines.proofs.source.utf8_of.Goals as goal

pub loop-place-preserved : goal.loop-place-preserved
loop-place-preserved c =
    let cs = codes_of c.args.text in
    let i = c.loop-place.place in
    let test = c.loop-place-test.true in
    let count = c.len-place-end.ensures.count in
    c.in_ok-push.ensures.bytes ∙ ap (λ bytes. bytes ++ encode_utf8 c.at.result) c.loop-place.invariant
    ∙ ap (λ ch. encode_utf8_all (take i cs) ++ encode_utf8 ch) c.at.ensures.character
    ∙ sym (encode-push (take i cs) (slice_index cs i)) ∙ ap encode_utf8_all (sym (take_more cs i 0 (omega (arith, test, count))))
