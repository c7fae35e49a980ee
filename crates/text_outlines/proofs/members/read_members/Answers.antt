use Rattle.std.proofs.Common.{inl, inr}
use Rattle.text_locations.proofs.ReadingLemmas.{exit}
use Rattle.text_outlines.proofs.OutlineLemmas.{some_refused, misses_from, no_less}
use Rattle.std.proofs.Common.{refl, subst, List}
use Rattle.ir_names.specs.declared.identifier.Identifier.{Identifier}
use Rattle.outline_tables.specs.declared.entries.Reference.{Reference}
use Rattle.text_outlines.specs.Members.{AreRead}
use Rattle.std.proofs.Common.{sym}
use Rattle.text_outlines.proofs.OutlineLemmas.{one_more, some_ended, sign_from, less_than}
use Rattle.text_outlines.proofs.members.read_members.Goals as goal

pub returns-then-take_sign-2 : goal.returns-then-take_sign-2
returns-then-take_sign-2 g c =
    let without = c.if-take_sign.ensures.without refl in
    some_ended g.F.FnMut c.args.attribute.now c.take_sign.new.stream c.members.members.items (c.members.keys, (c.members.attribute, c.members.stream))
    c.members.invariant c.args.stream.now _ c.in_ok-member.member (c.read_member.new.keys, (c.read_member.new.attribute, c.read_member.new.stream)) _
    without.0 c.in_ok-add.ensures without.1 c.in_ok-member.ensures (c.if-take_sign-2.ensures.there refl, refl)

pub members-preserved : goal.members-preserved
members-preserved g c =
    let P : List (Identifier × Reference g.row.A.Denot) → Type 0 = λ members.
    AreRead g.F.FnMut (c.args.attribute.now, c.take_sign.new.stream) members (c.read_member.new.keys, (c.read_member.new.attribute, c.expect.new.stream)) in
    let stays = (c.if-take_sign-2.ensures.without refl).0 in
    subst P (sym c.in_ok-add.ensures)
    (one_more g.F.FnMut c.args.attribute.now c.take_sign.new.stream c.members.members.items (c.members.keys, (c.members.attribute, c.members.stream))
    c.members.invariant c.in_ok-member.member (c.read_member.new.keys, (c.read_member.new.attribute, c.expect.new.stream))
    (c.read_member.new.attribute, c.read_member.new.stream) c.in_ok-member.ensures
    (sign_from 44 c.read_member.new.stream c.take_sign-in-members.new.stream c.expect.new.stream stays c.in_ok-expect.ensures, refl)
    (less_than _ _ _ c.bytes_left-left.ensures c.in_ok-needs_less.ensures))

pub returns-in_err-member : goal.returns-in_err-member
returns-in_err-member g c = exit _ _ c.from_residual.result c.in_err-member.field-0.0 c.from_residual.ensures.1
    (some_refused g.F.FnMut c.args.attribute.now c.take_sign.new.stream c.members.members.items (c.members.keys, (c.members.attribute, c.members.stream)) c.members.invariant c.args.stream.now
    (c.if-take_sign.ensures.without refl).0 (c.if-take_sign.ensures.without refl).1 c.in_err-member.field-0.0 (inl c.in_err-member.ensures))

pub returns-in_err-add : goal.returns-in_err-add
returns-in_err-add g c = exit _ _ c.from_residual-in_err-add.result c.in_err-add.field-0.0 c.from_residual-in_err-add.ensures.1
    (inl c.in_err-add.ensures)

pub returns-in_err-expect : goal.returns-in_err-expect
returns-in_err-expect g c = exit _ _ c.from_residual-in_err-expect.result c.in_err-expect.field-0.0 c.from_residual-in_err-expect.ensures.1
    (some_refused g.F.FnMut c.args.attribute.now c.take_sign.new.stream c.members.members.items (c.members.keys, (c.members.attribute, c.members.stream)) c.members.invariant c.args.stream.now
    (c.if-take_sign.ensures.without refl).0 (c.if-take_sign.ensures.without refl).1 c.in_err-expect.field-0.0
    (inr (
      c.in_ok-member.member,
      (c.read_member.new.keys, (c.read_member.new.attribute, c.read_member.new.stream)),
      c.in_ok-member.ensures,
      (c.if-take_sign-2.ensures.without refl).1,
      inl (misses_from 44 c.read_member.new.stream c.take_sign-in-members.new.stream c.in_err-expect.field-0.0 (c.if-take_sign-2.ensures.without refl).0 c.in_err-expect.ensures),
    )))

pub returns-in_err-needs_less : goal.returns-in_err-needs_less
returns-in_err-needs_less g c = exit _ _ c.from_residual-in_err-needs_less.result c.in_err-needs_less.field-0.0 c.from_residual-in_err-needs_less.ensures.1
    (some_refused g.F.FnMut c.args.attribute.now c.take_sign.new.stream c.members.members.items (c.members.keys, (c.members.attribute, c.members.stream)) c.members.invariant c.args.stream.now
    (c.if-take_sign.ensures.without refl).0 (c.if-take_sign.ensures.without refl).1 c.in_err-needs_less.field-0.0
    (inr (
      c.in_ok-member.member,
      (c.read_member.new.keys, (c.read_member.new.attribute, c.read_member.new.stream)),
      c.in_ok-member.ensures,
      (c.if-take_sign-2.ensures.without refl).1,
      inr (
        (c.read_member.new.attribute, c.expect.new.stream),
        (sign_from 44 c.read_member.new.stream c.take_sign-in-members.new.stream c.expect.new.stream (c.if-take_sign-2.ensures.without refl).0 c.in_ok-expect.ensures, refl),
        c.in_err-needs_less.ensures.0,
        no_less _ _ _ c.bytes_left-left.ensures c.in_err-needs_less.ensures.1,
      ),
    )))
