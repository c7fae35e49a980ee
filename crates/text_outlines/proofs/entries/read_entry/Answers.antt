use Rattle.std.proofs.Common.{inl, inr}
use Rattle.text_locations.proofs.ReadingLemmas.{exit}
use Rattle.std.proofs.Common.{◌∙◌, refl}
use Rattle.text_outlines.proofs.OutlineLemmas.{sign_from, spaces_from, without_from}
use Rattle.text_outlines.proofs.entries.read_entry.Goals as goal

pub returns-then-take_sign : goal.returns-then-take_sign
returns-then-take_sign g c = (
  (c.read_place.new.attribute, c.read_place.new.stream),
  ((c.args.attribute.now, c.take_sign.new.stream), (c.if-take_sign.ensures.there refl, refl), c.in_ok-location.ensures),
  c.in_ok-attributes.ensures,
)

pub returns-then-take_sign-2 : goal.returns-then-take_sign-2
returns-then-take_sign-2 g c =
    let without = c.if-take_sign.ensures.without refl in (
      (c.args.attribute.now, c.take_sign-2.new.stream),
      (without.1, (sign_from 91 c.args.stream.now c.take_sign.new.stream c.take_sign-2.new.stream without.0 (c.if-take_sign-2.ensures.there refl), refl)),
      c.in_ok-members.ensures,
    )

pub returns : goal.returns
returns g c =
    let first = c.if-take_sign.ensures.without refl in
    let second = c.if-take_sign-2.ensures.without refl in (
      first.1,
      without_from 91 c.args.stream.now c.take_sign.new.stream first.0 second.1,
      (c.args.attribute.now, record { position = c.skip_spaces-stream.result; state = c.take_sign-2.new.stream.state }),
      (
        spaces_from c.args.stream.now c.take_sign-2.new.stream
            (record { position = c.skip_spaces-stream.result; state = c.take_sign-2.new.stream.state })
            (second.0 ∙ first.0) (record { behind = c.skip_spaces-stream.ensures; state = refl }),
        refl,
      ),
      c.in_ok-value.ensures,
    )

pub returns-in_err-location : goal.returns-in_err-location
returns-in_err-location g c = exit _ _ c.from_residual.result c.in_err-location.field-0.0 c.from_residual.ensures.1
    (inl ((c.args.attribute.now, c.take_sign.new.stream), (c.if-take_sign.ensures.there refl, refl), inl c.in_err-location.ensures))

pub returns-in_err-attributes : goal.returns-in_err-attributes
returns-in_err-attributes g c = exit _ _ c.from_residual-in_err-attributes.result c.in_err-attributes.field-0.0 c.from_residual-in_err-attributes.ensures.1
    (inl ((c.args.attribute.now, c.take_sign.new.stream), (c.if-take_sign.ensures.there refl, refl), inr (c.in_ok-location.location, (c.read_place.new.attribute, c.read_place.new.stream), c.in_ok-location.ensures, c.in_err-attributes.ensures)))

pub returns-in_err-members : goal.returns-in_err-members
returns-in_err-members g c = exit _ _ c.from_residual-in_err-members.result c.in_err-members.field-0.0 c.from_residual-in_err-members.ensures.1
    (inr (inl (
      (c.args.attribute.now, c.take_sign-2.new.stream),
      (c.if-take_sign.ensures.without refl).1,
      (sign_from 91 c.args.stream.now c.take_sign.new.stream c.take_sign-2.new.stream (c.if-take_sign.ensures.without refl).0 (c.if-take_sign-2.ensures.there refl), refl),
      c.in_err-members.ensures,
    )))

pub returns-in_err-value : goal.returns-in_err-value
returns-in_err-value g c = exit _ _ c.from_residual-in_err-value.result c.in_err-value.field-0.0 c.from_residual-in_err-value.ensures.1
    (inr (inr (
      (c.if-take_sign.ensures.without refl).1,
      without_from 91 c.args.stream.now c.take_sign.new.stream (c.if-take_sign.ensures.without refl).0 (c.if-take_sign-2.ensures.without refl).1,
      (c.args.attribute.now, record { position = c.skip_spaces-stream.result; state = c.take_sign-2.new.stream.state }),
      (
        spaces_from c.args.stream.now c.take_sign-2.new.stream (record { position = c.skip_spaces-stream.result; state = c.take_sign-2.new.stream.state })
            ((c.if-take_sign-2.ensures.without refl).0 ∙ (c.if-take_sign.ensures.without refl).0) record { behind = c.skip_spaces-stream.ensures; state = refl },
        refl,
      ),
      (c.call.new.attribute, c.call.new.stream),
      c.in_err-value.ensures,
    )))
