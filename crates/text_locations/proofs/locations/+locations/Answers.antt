use Rattle.std.proofs.Common.{refl, sym, subst, inl, inr, ℕ, List, ◌<◌, ◌≤◌}
use Rattle.std.specs.Result.{MatchResult}
use Rattle.ir_locations.specs.declared.location.Location.{Location}
use Rattle.ir_locations.specs.declared.location.Location.TheVariants as whole
use Rattle.ir_locations.specs.declared.location.Location.TheViews as views
use Rattle.text_streams.specs.declared.stream.StateStream.{StateStream}
use Rattle.text_streams.specs.Positions.{bytes_left}
use Rattle.text_locations.specs.declared.firsts.First.{First}
use Rattle.text_locations.specs.declared.tokens.Token.TheVariants.{Comma}
use Rattle.text_locations.specs.Tokens.{ReadsToken, MissesToken}
use Rattle.text_locations.specs.Locations.{At, AreRead, ReadsNext, ReadsMembers, ReadsBehind, RefusesBehind, ReadsLocation, RefusesLocation, has_room}
use Rattle.text_locations.proofs.LocationLemmas.{refuses_first, refuses_deep, reads_behind, refuses_behind, one_more, some_ended, some_refused}
use Rattle.text_locations.proofs.ReadingLemmas.{exit, weaker}
use Rattle.text_locations.proofs.locations.+locations.Goals as goal

pub read_next-returns : goal.read_next-returns
read_next-returns g t c =
    let start : At g.row.F.Denot g.row.S.Denot = (c.args.attribute.now, record { position = c.skip_spaces-stream.result; state = c.args.stream.now.state }) in
    weaker _ _ _ _ c.read_location.result
    (λ l h. (start, (record { behind = c.skip_spaces-stream.ensures; state = refl }, refl), h))
    (λ fault h. (start, (record { behind = c.skip_spaces-stream.ensures; state = refl }, refl), h))
    c.read_location.ensures

pub read_last-returns-in_err-last : goal.read_last-returns-in_err-last
read_last-returns-in_err-last g t c =
    exit _ _ c.from_residual.result c.in_err-last.field-0.0 c.from_residual.ensures.1
    (inr (inl c.in_err-last.ensures))

pub read_last-returns-in_err-expect : goal.read_last-returns-in_err-expect
read_last-returns-in_err-expect g t c =
    let end : At g.row.F.Denot g.row.S.Denot = (c.read_next.new.attribute, c.read_next.new.stream) in
    exit _ _ c.from_residual-in_err-expect.result c.in_err-expect.field-0.0 c.from_residual-in_err-expect.ensures.1
    (inr (inr (c.in_ok-last.last, end, c.in_ok-last.ensures, c.in_err-expect.ensures)))

pub read_last-returns : goal.read_last-returns
read_last-returns g t c =
    let end : At g.row.F.Denot g.row.S.Denot = (c.read_next.new.attribute, c.read_next.new.stream) in
    let P : Location g.row.A.Denot → Type 0 = λ l. ReadsNext (ReadsLocation g.F.FnMut c.args.depth) (c.args.attribute.now, c.args.stream.now) l end in
    weaker _ _ _ _ c.boxed.result
    (λ last e. (end, subst P (sym e) c.in_ok-last.ensures, (c.in_ok-expect.ensures, refl)))
    (λ fault h. inl h)
    c.boxed.ensures

pub read_call_site-returns-in_err-expect : goal.read_call_site-returns-in_err-expect
read_call_site-returns-in_err-expect g t c =
    exit _ _ c.from_residual.result c.in_err-expect.field-0.0 c.from_residual.ensures.1
    (inr (inl c.in_err-expect.ensures))

pub read_call_site-returns-in_err-callee : goal.read_call_site-returns-in_err-callee
read_call_site-returns-in_err-callee g t c =
    let opened : At g.row.F.Denot g.row.S.Denot = (c.args.attribute.now, c.expect.new.stream) in
    exit _ _ c.from_residual-in_err-callee.result c.in_err-callee.field-0.0 c.from_residual-in_err-callee.ensures.1
    (inr (inr (opened, (c.in_ok-expect.ensures, refl), inl c.in_err-callee.ensures)))

pub read_call_site-returns-in_err-expect-2 : goal.read_call_site-returns-in_err-expect-2
read_call_site-returns-in_err-expect-2 g t c =
    let opened : At g.row.F.Denot g.row.S.Denot = (c.args.attribute.now, c.expect.new.stream) in
    let between : At g.row.F.Denot g.row.S.Denot = (c.read_next.new.attribute, c.read_next.new.stream) in
    exit _ _ c.from_residual-in_err-expect-2.result c.in_err-expect-2.field-0.0 c.from_residual-in_err-expect-2.ensures.1
    (inr (inr (opened, (c.in_ok-expect.ensures, refl), inr (c.in_ok-callee.callee, between, c.in_ok-callee.ensures, inl c.in_err-expect-2.ensures))))

pub read_call_site-returns-in_err-caller : goal.read_call_site-returns-in_err-caller
read_call_site-returns-in_err-caller g t c =
    let opened : At g.row.F.Denot g.row.S.Denot = (c.args.attribute.now, c.expect.new.stream) in
    let between : At g.row.F.Denot g.row.S.Denot = (c.read_next.new.attribute, c.read_next.new.stream) in
    let behind : At g.row.F.Denot g.row.S.Denot = (c.read_next.new.attribute, c.expect-2.new.stream) in
    exit _ _ c.from_residual-in_err-caller.result c.in_err-caller.field-0.0 c.from_residual-in_err-caller.ensures.1
    (inr (inr (
      opened,
      (c.in_ok-expect.ensures, refl),
      inr (c.in_ok-callee.callee, between, c.in_ok-callee.ensures, inr (behind, (c.in_ok-expect-2.ensures, refl), c.in_err-caller.ensures)),
    )))

pub read_call_site-returns-in_err-callee-2 : goal.read_call_site-returns-in_err-callee-2
read_call_site-returns-in_err-callee-2 g t c =
    exit _ _ c.from_residual-in_err-callee-2.result c.in_err-callee-2.field-0.0 c.from_residual-in_err-callee-2.ensures.1
    (inl c.in_err-callee-2.ensures)

pub read_call_site-returns : goal.read_call_site-returns
read_call_site-returns g t c =
    let opened : At g.row.F.Denot g.row.S.Denot = (c.args.attribute.now, c.expect.new.stream) in
    let between : At g.row.F.Denot g.row.S.Denot = (c.read_next.new.attribute, c.read_next.new.stream) in
    let behind : At g.row.F.Denot g.row.S.Denot = (c.read_next.new.attribute, c.expect-2.new.stream) in
    let P : Location g.row.A.Denot → Type 0 = λ l. ReadsNext (ReadsLocation g.F.FnMut c.args.depth) opened l between in
    record {
      callee = c.in_ok-callee-2.callee;
      caller = c.in_ok-caller.caller;
      is = refl;
      opened = opened;
      opens = (c.in_ok-expect.ensures, refl);
      between = between;
      callee_read = subst P (sym c.in_ok-callee-2.ensures) c.in_ok-callee.ensures;
      behind = behind;
      comma = (c.in_ok-expect-2.ensures, refl);
      caller_read = c.in_ok-caller.ensures;
    }

pub read_fused-returns-in_err-metadata : goal.read_fused-returns-in_err-metadata
read_fused-returns-in_err-metadata g t c =
    exit _ _ c.from_residual.result c.in_err-metadata.field-0.0 c.from_residual.ensures.1
    (inl c.in_err-metadata.ensures)

pub read_fused-returns-in_err-expect : goal.read_fused-returns-in_err-expect
read_fused-returns-in_err-expect g t c =
    let behind : At g.row.F.Denot g.row.S.Denot = (c.read_metadata.new.attribute, c.read_metadata.new.stream) in
    exit _ _ c.from_residual-in_err-expect.result c.in_err-expect.field-0.0 c.from_residual-in_err-expect.ensures.1
    (inr (c.in_ok-metadata.metadata, behind, c.in_ok-metadata.ensures, inl c.in_err-expect.ensures))

pub read_fused-returns-in_err-locations : goal.read_fused-returns-in_err-locations
read_fused-returns-in_err-locations g t c =
    let behind : At g.row.F.Denot g.row.S.Denot = (c.read_metadata.new.attribute, c.read_metadata.new.stream) in
    let opened : At g.row.F.Denot g.row.S.Denot = (c.read_metadata.new.attribute, c.expect.new.stream) in
    exit _ _ c.from_residual-in_err-locations.result c.in_err-locations.field-0.0 c.from_residual-in_err-locations.ensures.1
    (inr (
      c.in_ok-metadata.metadata,
      behind,
      c.in_ok-metadata.ensures,
      inr (opened, (c.in_ok-expect.ensures, refl), c.in_err-locations.ensures),
    ))

pub read_fused-returns : goal.read_fused-returns
read_fused-returns g t c =
    let behind : At g.row.F.Denot g.row.S.Denot = (c.read_metadata.new.attribute, c.read_metadata.new.stream) in
    let opened : At g.row.F.Denot g.row.S.Denot = (c.read_metadata.new.attribute, c.expect.new.stream) in
    record {
      metadata = c.in_ok-metadata.metadata;
      members = c.in_ok-locations.locations;
      is = refl;
      behind = behind;
      metadata_read = c.in_ok-metadata.ensures;
      opened = opened;
      opens = (c.in_ok-expect.ensures, refl);
      members_read = c.in_ok-locations.ensures;
    }

pub read_behind-returns-in-Unknown : goal.read_behind-returns-in-Unknown
read_behind-returns-in-Unknown g t c =
    let unknown : Location g.row.A.Denot = whole.Unknown in
    let P : First → Type 0 = λ first. ReadsBehind g.F.FnMut (has_room c.args.depth) (ReadsLocation g.F.FnMut c.args.depth) first (c.args.attribute.now, c.args.stream.now) unknown (c.args.attribute.now, c.args.stream.now) in
    subst P (sym c.in-Unknown.is) (refl, refl)

pub read_behind-returns-in_err-line-in-Source : goal.read_behind-returns-in_err-line-in-Source
read_behind-returns-in_err-line-in-Source g t c =
    let Q : First → Type 0 = λ first. RefusesBehind g.F.FnMut (has_room c.args.depth) (ReadsLocation g.F.FnMut c.args.depth) (RefusesLocation g.F.FnMut c.args.depth) first (c.args.attribute.now, c.args.stream.now) c.in_err-line-in-Source.field-0.0 in
    exit _ _ c.from_residual.result c.in_err-line-in-Source.field-0.0 c.from_residual.ensures.1
    (subst Q (sym c.in-Source.is) c.in_err-line-in-Source.ensures)

pub read_behind-returns-in_ok-line-in-Source : goal.read_behind-returns-in_ok-line-in-Source
read_behind-returns-in_ok-line-in-Source g t c =
    let line = c.in_ok-line-in-Source.line in
    let column = c.in_ok-line-in-Source.column in
    let place : Location g.row.A.Denot = whole.SrcPos c.in-Source.source line column in
    let P : First → Type 0 = λ first.
    ReadsBehind g.F.FnMut (has_room c.args.depth) (ReadsLocation g.F.FnMut c.args.depth) first (c.args.attribute.now, c.args.stream.now) place (c.args.attribute.now, c.read_place.new.stream) in
    subst P (sym c.in-Source.is) ((line, column), refl, c.in_ok-line-in-Source.ensures, refl)

pub read_behind-returns-in-Fused : goal.read_behind-returns-in-Fused
read_behind-returns-in-Fused g t c =
    let P : First → Type 0 = λ first. MatchResult c.read_fused.result
    (λ l. ReadsBehind g.F.FnMut (has_room c.args.depth) (ReadsLocation g.F.FnMut c.args.depth) first (c.args.attribute.now, c.args.stream.now) l (c.read_fused.new.attribute, c.read_fused.new.stream))
    (RefusesBehind g.F.FnMut (has_room c.args.depth) (ReadsLocation g.F.FnMut c.args.depth) (RefusesLocation g.F.FnMut c.args.depth) first (c.args.attribute.now, c.args.stream.now)) in
    subst P (sym c.in-Fused.is) c.read_fused.ensures

pub read_behind-returns-in-CallSite : goal.read_behind-returns-in-CallSite
read_behind-returns-in-CallSite g t c =
    let P : First → Type 0 = λ first. MatchResult c.read_call_site.result
    (λ l. ReadsBehind g.F.FnMut (has_room c.args.depth) (ReadsLocation g.F.FnMut c.args.depth) first (c.args.attribute.now, c.args.stream.now) l (c.read_call_site.new.attribute, c.read_call_site.new.stream))
    (RefusesBehind g.F.FnMut (has_room c.args.depth) (ReadsLocation g.F.FnMut c.args.depth) (RefusesLocation g.F.FnMut c.args.depth) first (c.args.attribute.now, c.args.stream.now)) in
    subst P (sym c.in-CallSite.is) c.read_call_site.ensures

pub read_behind-returns-in_err-name-in-Named : goal.read_behind-returns-in_err-name-in-Named
read_behind-returns-in_err-name-in-Named g t c =
    let Q : First → Type 0 = λ first. RefusesBehind g.F.FnMut (has_room c.args.depth) (ReadsLocation g.F.FnMut c.args.depth) (RefusesLocation g.F.FnMut c.args.depth) first (c.args.attribute.now, c.args.stream.now) c.in_err-name-in-Named.field-0.0 in
    exit _ _ c.from_residual-in_err-name-in-Named.result c.in_err-name-in-Named.field-0.0 c.from_residual-in_err-name-in-Named.ensures.1
    (subst Q (sym c.in-Named.is) (inl c.in_err-name-in-Named.ensures))

pub read_behind-returns-in_err-child-in-Named : goal.read_behind-returns-in_err-child-in-Named
read_behind-returns-in_err-child-in-Named g t c =
    let Q : First → Type 0 = λ first. RefusesBehind g.F.FnMut (has_room c.args.depth) (ReadsLocation g.F.FnMut c.args.depth) (RefusesLocation g.F.FnMut c.args.depth) first (c.args.attribute.now, c.args.stream.now) c.in_err-child-in-Named.field-0.0 in
    exit _ _ c.from_residual-in_err-child-in-Named.result c.in_err-child-in-Named.field-0.0 c.from_residual-in_err-child-in-Named.ensures.1
    (subst Q (sym c.in-Named.is) (inr (c.in_ok-name-in-Named.name, c.read_name.new.stream, c.in_ok-name-in-Named.ensures, c.in_err-child-in-Named.ensures)))

pub read_behind-returns-in_ok-child-in-Named : goal.read_behind-returns-in_ok-child-in-Named
read_behind-returns-in_ok-child-in-Named g t c =
    let P : First → Type 0 = λ first.
    ReadsBehind g.F.FnMut (has_room c.args.depth) (ReadsLocation g.F.FnMut c.args.depth) first (c.args.attribute.now, c.args.stream.now) (views.Named c.in_ok-name-in-Named.name c.in_ok-child-in-Named.child) (c.read_last.new.attribute, c.read_last.new.stream) in
    subst P (sym c.in-Named.is) (record {
      name = c.in_ok-name-in-Named.name;
      child = c.in_ok-child-in-Named.child;
      is = refl;
      behind = c.read_name.new.stream;
      name_read = c.in_ok-name-in-Named.ensures;
      child_read = c.in_ok-child-in-Named.ensures;
    })

pub read_location-returns-in_err-first : goal.read_location-returns-in_err-first
read_location-returns-in_err-first g t c =
    exit _ _ c.from_residual.result c.in_err-first.field-0.0 c.from_residual.ensures.1
    (refuses_first g.F.FnMut c.args.depth (c.args.attribute.now, c.args.stream.now) c.in_err-first.field-0.0 c.in_err-first.ensures)

pub read_location-returns-then-depth-eq0 : goal.read_location-returns-then-depth-eq0
read_location-returns-then-depth-eq0 g t c =
    refuses_deep g.F.FnMut c.args.depth (c.args.attribute.now, c.args.stream.now) c.fault_at.result c.in_ok-first.first c.read_first.new.stream
    c.if-depth-eq0.true c.in_ok-first.ensures c.fault_at.ensures

pub read_location-returns-in-Ok : goal.read_location-returns-in-Ok
read_location-returns-in-Ok g t c =
    reads_behind g.F.FnMut c.args.depth (c.args.attribute.now, c.args.stream.now) c.in-Ok.location (c.read_behind.new.attribute, c.read_behind.new.stream)
    c.in_ok-first.first c.read_first.new.stream c.if-depth-eq0.false c.in_ok-first.ensures c.in-Ok.ensures

pub read_location-returns-in-Err : goal.read_location-returns-in-Err
read_location-returns-in-Err g t c =
    refuses_behind g.F.FnMut c.args.depth (c.args.attribute.now, c.args.stream.now) c.in-Err.fault c.in_ok-first.first c.read_first.new.stream c.if-depth-eq0.false
    c.in_ok-first.ensures c.in-Err.ensures

pub read_members-returns-then-take_next : goal.read_members-returns-then-take_next
read_members-returns-then-take_next g t c =
    inl (c.new-members.ensures.items, (c.if-take_next.ensures.there refl, refl))

pub read_members-members-init : goal.read_members-members-init
read_members-members-init g t c =
    let start : At g.row.F.Denot g.row.S.Denot = (c.args.attribute.now, c.take_next.new.stream) in
    let P : List (Location g.row.A.Denot) → Type 0 = λ ls. AreRead (ReadsLocation g.F.FnMut c.args.depth) start ls start in
    subst P (sym c.new-members.ensures.items) refl

pub read_members-returns-in_err-member : goal.read_members-returns-in_err-member
read_members-returns-in_err-member g t c =
    let none = c.if-take_next.ensures.without refl in
    let at : At g.row.F.Denot g.row.S.Denot = (c.members.attribute, c.members.stream) in
    exit _ _ c.from_residual.result c.in_err-member.field-0.0 c.from_residual.ensures.1
    (some_refused (ReadsLocation g.F.FnMut c.args.depth) c.args.attribute.now c.take_next.new.stream c.args.stream.now c.members.members.items at c.members.invariant (RefusesLocation g.F.FnMut c.args.depth) c.in_err-member.field-0.0 none.0 none.1
    (inl c.in_err-member.ensures))

pub read_members-returns-in_err-add : goal.read_members-returns-in_err-add
read_members-returns-in_err-add g t c =
    exit _ _ c.from_residual-in_err-add.result c.in_err-add.field-0.0 c.from_residual-in_err-add.ensures.1
    (inl c.in_err-add.ensures)

pub read_members-returns-then-take_next-2 : goal.read_members-returns-then-take_next-2
read_members-returns-then-take_next-2 g t c =
    let none = c.if-take_next.ensures.without refl in
    let at : At g.row.F.Denot g.row.S.Denot = (c.members.attribute, c.members.stream) in
    let end : At g.row.F.Denot g.row.S.Denot = (c.read_next.new.attribute, c.read_next.new.stream) in
    let P : List (Location g.row.A.Denot) → Type 0 = λ ls. ReadsMembers (ReadsLocation g.F.FnMut c.args.depth) (c.args.attribute.now, c.args.stream.now) ls (c.read_next.new.attribute, c.take_next-in-members.new.stream) in
    subst P (sym c.in_ok-add.ensures) (some_ended (ReadsLocation g.F.FnMut c.args.depth) c.args.attribute.now c.take_next.new.stream c.args.stream.now c.members.members.items at c.members.invariant c.in_ok-member.member end (c.read_next.new.attribute, c.take_next-in-members.new.stream)
    none.0 none.1 c.in_ok-member.ensures (c.if-take_next-2.ensures.there refl, refl))

pub read_members-returns-in_err-expect : goal.read_members-returns-in_err-expect
read_members-returns-in_err-expect g t c =
    let none = c.if-take_next.ensures.without refl in
    let at : At g.row.F.Denot g.row.S.Denot = (c.members.attribute, c.members.stream) in
    let end : At g.row.F.Denot g.row.S.Denot = (c.read_next.new.attribute, c.read_next.new.stream) in
    let other = c.if-take_next-2.ensures.without refl in
    let Q : StateStream g.row.S.Denot → Type 0 = λ s. MissesToken Comma s c.in_err-expect.field-0.0 in
    exit _ _ c.from_residual-in_err-expect.result c.in_err-expect.field-0.0 c.from_residual-in_err-expect.ensures.1
    (some_refused (ReadsLocation g.F.FnMut c.args.depth) c.args.attribute.now c.take_next.new.stream c.args.stream.now c.members.members.items at c.members.invariant (RefusesLocation g.F.FnMut c.args.depth) c.in_err-expect.field-0.0 none.0 none.1
    (inr (c.in_ok-member.member, end, c.in_ok-member.ensures, other.1, inl (subst Q other.0 c.in_err-expect.ensures))))

pub read_members-members-smaller : goal.read_members-members-smaller
read_members-members-smaller g t c =
    let P : ℕ → Type 0 = λ n. bytes_left c.expect.new.stream.position < n in
    subst P c.bytes_left-left.ensures c.in_ok-needs_less.ensures

pub read_members-members-preserved : goal.read_members-members-preserved
read_members-members-preserved g t c =
    let none = c.if-take_next.ensures.without refl in
    let at : At g.row.F.Denot g.row.S.Denot = (c.members.attribute, c.members.stream) in
    let end : At g.row.F.Denot g.row.S.Denot = (c.read_next.new.attribute, c.read_next.new.stream) in
    let other = c.if-take_next-2.ensures.without refl in
    let Q : StateStream g.row.S.Denot → Type 0 = λ s. ReadsToken Comma s c.expect.new.stream in
    let P : ℕ → Type 0 = λ n. bytes_left c.expect.new.stream.position < n in
    let R : List (Location g.row.A.Denot) → Type 0 = λ ls. AreRead (ReadsLocation g.F.FnMut c.args.depth) (c.args.attribute.now, c.take_next.new.stream) ls (c.read_next.new.attribute, c.expect.new.stream) in
    subst R (sym c.in_ok-add.ensures) (one_more (ReadsLocation g.F.FnMut c.args.depth) c.args.attribute.now c.take_next.new.stream c.take_next.new.stream c.members.members.items at c.members.invariant c.in_ok-member.member end (c.read_next.new.attribute, c.expect.new.stream)
    c.in_ok-member.ensures (subst Q other.0 c.in_ok-expect.ensures, refl) (subst P c.bytes_left-left.ensures c.in_ok-needs_less.ensures))

pub read_members-returns-in_err-needs_less : goal.read_members-returns-in_err-needs_less
read_members-returns-in_err-needs_less g t c =
    let none = c.if-take_next.ensures.without refl in
    let at : At g.row.F.Denot g.row.S.Denot = (c.members.attribute, c.members.stream) in
    let end : At g.row.F.Denot g.row.S.Denot = (c.read_next.new.attribute, c.read_next.new.stream) in
    let other = c.if-take_next-2.ensures.without refl in
    let Q : StateStream g.row.S.Denot → Type 0 = λ s. ReadsToken Comma s c.expect.new.stream in
    let P : ℕ → Type 0 = λ n. n ≤ bytes_left c.expect.new.stream.position in
    exit _ _ c.from_residual-in_err-needs_less.result c.in_err-needs_less.field-0.0 c.from_residual-in_err-needs_less.ensures.1
    (some_refused (ReadsLocation g.F.FnMut c.args.depth) c.args.attribute.now c.take_next.new.stream c.args.stream.now c.members.members.items at c.members.invariant (RefusesLocation g.F.FnMut c.args.depth) c.in_err-needs_less.field-0.0 none.0 none.1
    (inr (
      c.in_ok-member.member,
      end,
      c.in_ok-member.ensures,
      other.1,
      inr ((c.read_next.new.attribute, c.expect.new.stream), (subst Q other.0 c.in_ok-expect.ensures, refl), c.in_err-needs_less.ensures.0, subst P c.bytes_left-left.ensures c.in_err-needs_less.ensures.1),
    )))
