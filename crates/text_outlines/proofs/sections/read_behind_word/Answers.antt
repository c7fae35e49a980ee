use Rattle.std.proofs.Common.{refl, inl, inr}
use Rattle.text_locations.proofs.ReadingLemmas.{exit, weaker}
use Rattle.text_outlines.proofs.sections.read_behind_word.Goals as goal

pub returns-in_err-expect : goal.returns-in_err-expect
returns-in_err-expect g c = exit _ _ c.from_residual.result c.in_err-expect.field-0.0 c.from_residual.ensures.1
    (inl c.in_err-expect.ensures)

pub returns : goal.returns
returns g c = weaker _ _ _ _ c.read_entries.result (λ table h. ((c.args.attribute.now, c.expect.new.stream), (c.in_ok-expect.ensures, refl), h))
    (λ fault h. inr ((c.args.attribute.now, c.expect.new.stream), (c.in_ok-expect.ensures, refl), h)) c.read_entries.ensures
