use Rattle.std.proofs.Common.{inl, inr}
use Rattle.text_locations.proofs.ReadingLemmas.{exit}
use Rattle.std.proofs.Common.{refl}
use Rattle.text_outlines.proofs.entries.read_place.Goals as goal

pub returns : goal.returns
returns g c = record {
  opened = (c.args.attribute.now, c.expect.new.stream);
  opens = (c.in_ok-expect.ensures, refl);
  start = (c.args.attribute.now, record { position = c.skip_spaces-stream.result; state = c.expect.new.stream.state });
  spaces = (record { behind = c.skip_spaces-stream.ensures; state = refl }, refl);
  end = (c.location_by.new.attribute, c.location_by.new.stream);
  location_read = c.in_ok-location.ensures.read;
  closed = (c.location_by.new.attribute, c.expect-2.new.stream);
  closes = (c.in_ok-expect-2.ensures, refl);
  behind = (c.location_by.new.attribute, c.expect-3.new.stream);
  comma = (c.in_ok-expect-3.ensures, refl);
  opens_members = (c.in_ok-expect-4.ensures, refl);
}

pub returns-in_err-expect : goal.returns-in_err-expect
returns-in_err-expect g c = exit _ _ c.from_residual.result c.in_err-expect.field-0.0 c.from_residual.ensures.1
    (inl c.in_err-expect.ensures)

pub returns-in_err-location : goal.returns-in_err-location
returns-in_err-location g c = exit _ _ c.from_residual-in_err-location.result c.in_err-location.field-0.0 c.from_residual-in_err-location.ensures.1
    (inr ((c.args.attribute.now, c.expect.new.stream), (c.in_ok-expect.ensures, refl), (c.args.attribute.now, record { position = c.skip_spaces-stream.result; state = c.expect.new.stream.state }), (record { behind = c.skip_spaces-stream.ensures; state = refl }, refl), inl c.in_err-location.ensures.read))

pub returns-in_err-expect-2 : goal.returns-in_err-expect-2
returns-in_err-expect-2 g c = exit _ _ c.from_residual-in_err-expect-2.result c.in_err-expect-2.field-0.0 c.from_residual-in_err-expect-2.ensures.1
    (inr ((c.args.attribute.now, c.expect.new.stream), (c.in_ok-expect.ensures, refl), (c.args.attribute.now, record { position = c.skip_spaces-stream.result; state = c.expect.new.stream.state }), (record { behind = c.skip_spaces-stream.ensures; state = refl }, refl), inr (c.in_ok-location.location, (c.location_by.new.attribute, c.location_by.new.stream), c.in_ok-location.ensures.read, inl c.in_err-expect-2.ensures)))

pub returns-in_err-expect-3 : goal.returns-in_err-expect-3
returns-in_err-expect-3 g c = exit _ _ c.from_residual-in_err-expect-3.result c.in_err-expect-3.field-0.0 c.from_residual-in_err-expect-3.ensures.1
    (inr ((c.args.attribute.now, c.expect.new.stream), (c.in_ok-expect.ensures, refl), (c.args.attribute.now, record { position = c.skip_spaces-stream.result; state = c.expect.new.stream.state }), (record { behind = c.skip_spaces-stream.ensures; state = refl }, refl), inr (c.in_ok-location.location, (c.location_by.new.attribute, c.location_by.new.stream), c.in_ok-location.ensures.read, inr ((c.location_by.new.attribute, c.expect-2.new.stream), (c.in_ok-expect-2.ensures, refl), inl c.in_err-expect-3.ensures))))

pub returns-in_err-expect-4 : goal.returns-in_err-expect-4
returns-in_err-expect-4 g c = exit _ _ c.from_residual-in_err-expect-4.result c.in_err-expect-4.field-0.0 c.from_residual-in_err-expect-4.ensures.1
    (inr ((c.args.attribute.now, c.expect.new.stream), (c.in_ok-expect.ensures, refl), (c.args.attribute.now, record { position = c.skip_spaces-stream.result; state = c.expect.new.stream.state }), (record { behind = c.skip_spaces-stream.ensures; state = refl }, refl), inr (c.in_ok-location.location, (c.location_by.new.attribute, c.location_by.new.stream), c.in_ok-location.ensures.read, inr ((c.location_by.new.attribute, c.expect-2.new.stream), (c.in_ok-expect-2.ensures, refl), inr ((c.location_by.new.attribute, c.expect-3.new.stream), (c.in_ok-expect-3.ensures, refl), c.in_err-expect-4.ensures)))))
