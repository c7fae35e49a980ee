use Rattle.std.proofs.Common.{◌∙◌, refl, ap, inr}
use Rattle.text_streams.specs.declared.stream.StateStream.{StateStream}
use Rattle.parsed_operands.proofs.operands.block_opd_parse.Goals as goal

pub returns-in-Ok : goal.returns-in-Ok
returns-in-Ok g c = record {
  label = c.take_label_sign.new.stream;
  sign = c.if-not-take_label_sign.ensures.there refl;
  mention = c.in-Ok.ensures;
}

pub returns-in-Err : goal.returns-in-Err
returns-in-Err g c =
    let sign = c.if-not-take_label_sign.ensures.there refl in
    let at : g.row.S.Denot → StateStream g.row.S.Denot = λ s. record { position = c.args.stream.now.position; state = s } in
    let state : StateStream g.row.S.Denot → g.row.S.Denot = λ s. s.state in (
      ap at (ap state c.in-Err.ensures.stays.stays ∙ sign.spaces.state ∙ sign.sign.state),
      inr (record {
        label = c.take_label_sign.new.stream;
        sign = sign;
        refused = c.in-Err.fault;
        mention = record {
          stays = record { stays = refl; here = c.in-Err.ensures.stays.here; unconsumed = c.in-Err.ensures.stays.unconsumed };
          why = c.in-Err.ensures.why;
        };
        handed_on = refl;
      }),
    )
