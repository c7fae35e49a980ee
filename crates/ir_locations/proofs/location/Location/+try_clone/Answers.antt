use Rattle.std.proofs.Common.{rules, arith}
use Rattle.ir_locations.proofs.CopyLemmas.{same, pointwise-next, pointwise-whole, same_src_pos, same_fused, same_named, same_call_site, same_unknown}
use Rattle.ir_locations.proofs.location.Location.+try_clone.Goals as goal

pub loop-location-preserved : goal.loop-location-preserved
loop-location-preserved g t c =
    let next = pointwise-next (same g.row.A g.A.PartialEq g.A.PartialEq-dict record { laws = g.met.A.PartialEq.laws }) c.loop-location.copies.items c.deref-location-items.result.now
    c.loop-location.location-index c.in_ok-copy-in-Fused.copy c.location-item.result (omega arith) c.location-item.is in
    (rw c.in_ok-push-in-Fused.ensures.items (next c.loop-location.invariant.0 c.in_ok-copy-in-Fused.ensures), c.loop-location.invariant.1)

pub returns-in_ok-source-in-SrcPos : goal.returns-in_ok-source-in-SrcPos
returns-in_ok-source-in-SrcPos g t c =
    let same = same_src_pos g.row.A g.A.PartialEq g.A.PartialEq-dict record { laws = g.met.A.PartialEq.laws } in search (rules, same)

pub returns-after-loop-location : goal.returns-after-loop-location
returns-after-loop-location g t c =
    let same = same_fused g.row.A g.A.PartialEq g.A.PartialEq-dict record { laws = g.met.A.PartialEq.laws } in
    let copied = pointwise-whole _ c.loop-location.copies.items c.deref-location-items.result.now c.in-Fused.locations.items c.loop-location.location-index
    c.loop-location-test.false c.deref-location-items.ensures.value c.loop-location.invariant.0 in
    rw c.in-Fused.is (same _ _ _ _ (rw c.loop-location.invariant.1 c.in_ok-metadata-in-Fused.ensures) copied)

pub returns-in_ok-child-in-Named : goal.returns-in_ok-child-in-Named
returns-in_ok-child-in-Named g t c =
    let same = same_named g.row.A g.A.PartialEq g.A.PartialEq-dict record { laws = g.met.A.PartialEq.laws } in search (rules, same)

pub returns-in_ok-caller-in-CallSite : goal.returns-in_ok-caller-in-CallSite
returns-in_ok-caller-in-CallSite g t c =
    let same = same_call_site g.row.A g.A.PartialEq g.A.PartialEq-dict record { laws = g.met.A.PartialEq.laws } in search (rules, same)

pub returns-in-Unknown : goal.returns-in-Unknown
returns-in-Unknown g t c =
    let same = same_unknown g.row.A g.A.PartialEq g.A.PartialEq-dict record { laws = g.met.A.PartialEq.laws } in search (rules, same)
