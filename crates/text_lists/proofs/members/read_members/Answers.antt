use Rattle.std.proofs.Common.{◌≡◌, ◌≤◌, ℕ, refl, sym, subst, List}
use Rattle.text_streams.specs.Positions.{bytes_left}
use Rattle.text_lists.specs.Members.{AreRead, may_end}
use Rattle.text_lists.specs.Lists.{ReadsList}
use Rattle.text_lists.proofs.ListLemmas.{one_more, ends_before, ends_behind, refused_call, refused_memory, refused_still, may_end-more, at_none, at_some, exit}
use Rattle.text_lists.proofs.members.read_members.Goals as goal

pub returns-in_err-member : goal.returns-in_err-member
returns-in_err-member g c = exit _ _ c.from_residual.result c.in_err-member.field-0.0 c.from_residual.ensures.1
    (refused_call g.F.FnMut c.args.sign c.args.parser c.args.stream.now c.members.members.items (c.members.parser, c.members.stream)
    c.members.invariant.0 c.members.may_end c.in_err-member.field-0.0 c.members.invariant.1 c.in_err-member.ensures)

pub returns-in_default : goal.returns-in_default
returns-in_default g c =
    let absent = at_none _ _ c.in_ok-member.field-0 c.in_default.is c.in_ok-member.ensures in
    ends_before g.F.FnMut c.args.sign c.args.parser c.args.stream.now c.members.members.items (c.members.parser, c.members.stream)
    c.members.invariant.0 c.members.may_end c.next_member.new.parser c.next_member.new.stream c.members.invariant.1 absent.0 absent.1

pub returns-in_err-add : goal.returns-in_err-add
returns-in_err-add g c = exit _ _ c.from_residual-in_err-add.result c.in_err-add.field-0.0 c.from_residual-in_err-add.ensures.1
    (refused_memory g.F.FnMut c.args.sign c.args.parser c.args.stream.now c.members.members.items (c.members.parser, c.members.stream)
    c.members.invariant.0 c.in_err-add.field-0.0 c.in_err-add.ensures)

pub returns-then-not-goes_on : goal.returns-then-not-goes_on
returns-then-not-goes_on g c =
    let P : List g.row.T.Denot → Type 0 = λ members. ReadsList g.F.FnMut c.args.sign c.args.parser c.args.stream.now members c.goes_on.new.stream in
    subst P (sym c.in_ok-add.ensures) (ends_behind g.F.FnMut c.args.sign c.args.parser c.args.stream.now c.members.members.items (c.members.parser, c.members.stream)
    c.members.invariant.0 c.in-Some.member (c.next_member.new.parser, c.next_member.new.stream) c.goes_on.new.stream
    (at_some _ _ c.in_ok-member.field-0 c.in-Some.member c.in-Some.is c.in_ok-member.ensures) (c.if-not-goes_on.ensures.stops refl))

pub returns-in_err-needs_less : goal.returns-in_err-needs_less
returns-in_err-needs_less g c =
    let P : ℕ → Type 0 = λ n. n ≤ bytes_left c.goes_on.new.stream.position in
    exit _ _ c.from_residual-in_err-needs_less.result c.in_err-needs_less.field-0.0 c.from_residual-in_err-needs_less.ensures.1
    (refused_still g.F.FnMut c.args.sign c.args.parser c.args.stream.now c.members.members.items (c.members.parser, c.members.stream)
    c.members.invariant.0 c.in_err-needs_less.field-0.0 c.in-Some.member (c.next_member.new.parser, c.next_member.new.stream) c.goes_on.new.stream
    (at_some _ _ c.in_ok-member.field-0 c.in-Some.member c.in-Some.is c.in_ok-member.ensures) (c.if-not-goes_on.ensures.on refl)
    c.in_err-needs_less.ensures.0 (subst P c.bytes_left-left.ensures c.in_err-needs_less.ensures.1))

pub members-preserved : goal.members-preserved
members-preserved g c =
    let P : List g.row.T.Denot → Type 0 = λ members. AreRead g.F.FnMut c.args.sign (c.args.parser, c.args.stream.now) members (c.next_member.new.parser, c.goes_on.new.stream) in
    let Q : List g.row.T.Denot → Type 0 = λ members. c.is_none-may_end.result ≡ may_end c.args.sign members in (
      subst P (sym c.in_ok-add.ensures) (one_more g.F.FnMut c.args.sign c.args.parser c.args.stream.now c.members.members.items (c.members.parser, c.members.stream)
          c.members.invariant.0 c.in-Some.member (c.next_member.new.parser, c.next_member.new.stream) c.goes_on.new.stream
          (at_some _ _ c.in_ok-member.field-0 c.in-Some.member c.in-Some.is c.in_ok-member.ensures) (c.if-not-goes_on.ensures.on refl)),
      subst Q (sym c.in_ok-add.ensures) (may_end-more c.args.sign c.members.members.items c.in-Some.member c.is_none-may_end.result c.is_none-may_end.ensures),
    )
