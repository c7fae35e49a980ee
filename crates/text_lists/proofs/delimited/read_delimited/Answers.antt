use Rattle.std.proofs.Common.{◌∙◌, refl, sym, ap, inl, inr}
use Rattle.text_streams.specs.Positions.{place}
use Rattle.text_lists.proofs.ListLemmas.{exit}
use Rattle.text_lists.proofs.delimited.read_delimited.Goals as goal

pub returns-in_err-members : goal.returns-in_err-members
returns-in_err-members g c = exit _ _ c.from_residual.result c.in_err-members.field-0.0 c.from_residual.ensures.1
    (inr (c.take_sign.new.stream, c.if-not-take_sign.ensures.there refl, inl c.in_err-members.ensures))

pub returns-then-not-take_character : goal.returns-then-not-take_character
returns-then-not-take_character g c =
    let without = c.if-not-take_character.ensures.without refl in
    inr (
      c.take_sign.new.stream,
      c.if-not-take_sign.ensures.there refl,
      inr (
        c.in_ok-members.members.items,
        c.read_members.new.stream,
        c.in_ok-members.ensures,
        record {
          cause = c.fault-then-not-take_character.ensures.cause;
          without = without.1;
          met = record {
            stays = refl;
            here = ap (λ s. place s.position) (sym without.0) ∙ c.fault-then-not-take_character.ensures.here;
            unconsumed = c.fault-then-not-take_character.ensures.unconsumed;
          };
        },
      ),
    )

pub returns : goal.returns
returns g c = record {
  start = c.take_sign.new.stream;
  opened = c.if-not-take_sign.ensures.there refl;
  end = c.read_members.new.stream;
  list = c.in_ok-members.ensures;
  closed = c.if-not-take_character.ensures.there refl;
}
