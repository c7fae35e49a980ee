use Rattle.std.proofs.Common.{inl, inr}
use Rattle.text_locations.proofs.ReadingLemmas.{exit, weaker}
use Rattle.text_locations.proofs.places.read_labelled.Goals as goal

pub returns-in_err-expect : goal.returns-in_err-expect
returns-in_err-expect g c = exit _ _ c.from_residual.result c.in_err-expect.field-0.0 c.from_residual.ensures.1 (inl c.in_err-expect.ensures)

pub returns-in_err-expect-2 : goal.returns-in_err-expect-2
returns-in_err-expect-2 g c = exit _ _ c.from_residual-in_err-expect-2.result c.in_err-expect-2.field-0.0 c.from_residual-in_err-expect-2.ensures.1
    (inr (c.expect.new.stream, c.in_ok-expect.ensures, inl c.in_err-expect-2.ensures))

pub returns-in_err-expect-3 : goal.returns-in_err-expect-3
returns-in_err-expect-3 g c = exit _ _ c.from_residual-in_err-expect-3.result c.in_err-expect-3.field-0.0 c.from_residual-in_err-expect-3.ensures.1
    (inr (c.expect.new.stream, c.in_ok-expect.ensures, inr (c.expect-2.new.stream, c.in_ok-expect-2.ensures, inl c.in_err-expect-3.ensures)))

pub returns : goal.returns
returns g c = weaker _ _ _ _ c.read_digits.result
    (λ digits h. record {
      behind_token = c.expect.new.stream;
      token_read = c.in_ok-expect.ensures;
      behind_label = c.expect-2.new.stream;
      label_read = c.in_ok-expect-2.ensures;
      behind_colon = c.expect-3.new.stream;
      colon_read = c.in_ok-expect-3.ensures;
      digits_read = h;
    })
    (λ fault h. inr (
      c.expect.new.stream,
      c.in_ok-expect.ensures,
      inr (c.expect-2.new.stream, c.in_ok-expect-2.ensures, inr (c.expect-3.new.stream, c.in_ok-expect-3.ensures, h)),
    ))
    c.read_digits.ensures
