use Rattle.std.proofs.Common.{refl, inl, inr}
use Rattle.text_locations.proofs.ReadingLemmas.{exit}
use Rattle.text_locations.proofs.places.read_name.Goals as goal

pub returns-in_err-expect : goal.returns-in_err-expect
returns-in_err-expect g c = exit _ _ c.from_residual.result c.in_err-expect.field-0.0 c.from_residual.ensures.1 (inl c.in_err-expect.ensures)

pub returns-in_err-name : goal.returns-in_err-name
returns-in_err-name g c = exit _ _ c.from_residual-in_err-name.result c.in_err-name.field-0.0 c.from_residual-in_err-name.ensures.1
    (inr (
      c.expect.new.stream,
      c.in_ok-expect.ensures,
      record { position = c.skip_spaces-stream.result; state = c.expect.new.stream.state },
      record { behind = c.skip_spaces-stream.ensures; state = refl },
      inl c.in_err-name.ensures,
    ))

pub returns-in_err-expect-2 : goal.returns-in_err-expect-2
returns-in_err-expect-2 g c = exit _ _ c.from_residual-in_err-expect-2.result c.in_err-expect-2.field-0.0 c.from_residual-in_err-expect-2.ensures.1
    (inr (
      c.expect.new.stream,
      c.in_ok-expect.ensures,
      record { position = c.skip_spaces-stream.result; state = c.expect.new.stream.state },
      record { behind = c.skip_spaces-stream.ensures; state = refl },
      inr (c.in_ok-name.name, c.take_quoted.new.stream, c.in_ok-name.ensures, c.in_err-expect-2.ensures),
    ))

pub returns : goal.returns
returns g c = record {
  opened = c.expect.new.stream;
  opens = c.in_ok-expect.ensures;
  here = record { position = c.skip_spaces-stream.result; state = c.expect.new.stream.state };
  spaces = record { behind = c.skip_spaces-stream.ensures; state = refl };
  named = c.take_quoted.new.stream;
  quoted = c.in_ok-name.ensures;
  comma = c.in_ok-expect-2.ensures;
}
