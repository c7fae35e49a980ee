use Rattle.std.proofs.Common.{refl, ap, inl, inr}
use Rattle.text_streams.specs.declared.stream.StateStream.{StateStream}
use Rattle.text_locations.specs.Locations.{At, has_room}
use Rattle.text_locations.proofs.LocationLemmas.{room_is}
use Rattle.text_locations.proofs.ReadingLemmas.{exit}
use Rattle.text_locations.proofs.locations.read_metadata.Goals as goal

pub returns-then-not-take_next : goal.returns-then-not-take_next
returns-then-not-take_next g c =
    let without = c.if-not-take_next.ensures.without refl in
    (without.1, ap (λ (s : StateStream g.row.S.Denot). (c.args.attribute.now, s)) without.0)

pub returns-then-depth-eq0 : goal.returns-then-depth-eq0
returns-then-depth-eq0 g c =
    let behind : At g.row.F.Denot g.row.S.Denot = (c.args.attribute.now, c.take_next.new.stream) in
    let start : At g.row.F.Denot g.row.S.Denot = (c.args.attribute.now, record { position = c.skip_spaces-stream.result; state = c.take_next.new.stream.state }) in
    let fault = c.fault.ensures in
    (behind, (c.if-not-take_next.ensures.there refl, refl), start, (record { behind = c.skip_spaces-stream.ensures; state = refl }, refl), inl (ap has_room c.if-depth-eq0.true, record { here = fault.here; cause = fault.cause; unconsumed = fault.unconsumed }))

pub returns-in_err-metadata : goal.returns-in_err-metadata
returns-in_err-metadata g c =
    let behind : At g.row.F.Denot g.row.S.Denot = (c.args.attribute.now, c.take_next.new.stream) in
    let start : At g.row.F.Denot g.row.S.Denot = (c.args.attribute.now, record { position = c.skip_spaces-stream.result; state = c.take_next.new.stream.state }) in
    let end : At g.row.F.Denot g.row.S.Denot = (c.call.new.attribute, c.call.new.stream) in
    exit _ _ c.from_residual.result c.in_err-metadata.field-0.0 c.from_residual.ensures.1
    (behind, (c.if-not-take_next.ensures.there refl, refl), start, (record { behind = c.skip_spaces-stream.ensures; state = refl }, refl), inr (room_is c.args.depth c.if-depth-eq0.false, end, inl c.in_err-metadata.ensures))

pub returns-in_err-expect : goal.returns-in_err-expect
returns-in_err-expect g c =
    let behind : At g.row.F.Denot g.row.S.Denot = (c.args.attribute.now, c.take_next.new.stream) in
    let start : At g.row.F.Denot g.row.S.Denot = (c.args.attribute.now, record { position = c.skip_spaces-stream.result; state = c.take_next.new.stream.state }) in
    let end : At g.row.F.Denot g.row.S.Denot = (c.call.new.attribute, c.call.new.stream) in
    exit _ _ c.from_residual-in_err-expect.result c.in_err-expect.field-0.0 c.from_residual-in_err-expect.ensures.1
    (behind, (c.if-not-take_next.ensures.there refl, refl), start, (record { behind = c.skip_spaces-stream.ensures; state = refl }, refl), inr (room_is c.args.depth c.if-depth-eq0.false, end, inr (c.in_ok-metadata.metadata, c.in_ok-metadata.ensures, c.in_err-expect.ensures)))

pub returns : goal.returns
returns g c =
    let behind : At g.row.F.Denot g.row.S.Denot = (c.args.attribute.now, c.take_next.new.stream) in
    let start : At g.row.F.Denot g.row.S.Denot = (c.args.attribute.now, record { position = c.skip_spaces-stream.result; state = c.take_next.new.stream.state }) in
    let end : At g.row.F.Denot g.row.S.Denot = (c.call.new.attribute, c.call.new.stream) in
    (room_is c.args.depth c.if-depth-eq0.false, behind, (c.if-not-take_next.ensures.there refl, refl), start, (record { behind = c.skip_spaces-stream.ensures; state = refl }, refl), end, c.in_ok-metadata.ensures, (c.in_ok-expect.ensures, refl))
