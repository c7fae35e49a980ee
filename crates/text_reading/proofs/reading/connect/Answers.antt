use Rattle.std.proofs.Common.{sym, subst}
use Rattle.text_dialect.specs.Seen.{seen}
use Rattle.text_frames.specs.building.Inside.{AreLoose, AreUsedInside, CameSince, StartIsOutside}
use Rattle.text_frames.proofs.BuildingLemmas.Discarded.{used_since}
use Rattle.text_frames.proofs.BuildingLemmas.Numbers.{erased_both}
use Rattle.text_frames.proofs.BuildingLemmas.Shown.{payloads_of_both, payloads_shown}
use Rattle.text_reading.proofs.reading.connect.Goals as goal

pub discard-requires-clause-loose : goal.discard-requires-clause-loose
discard-requires-clause-loose g c =
    let w = c.requires.waiting in
    let held = c.link.ensures.held w.0 w.1 c.args.assembly.now.loose.items w.2 w.3 in
    subst (AreLoose (seen c.link.new.ctx)) (sym c.deref.ensures.value) held.loose

pub discard-requires-clause-used : goal.discard-requires-clause-used
discard-requires-clause-used g c =
    let w = c.requires.waiting in
    let held = c.link.ensures.held w.0 w.1 c.args.assembly.now.loose.items w.2 w.3 in
    subst (AreUsedInside (seen c.link.new.ctx)) (sym c.deref.ensures.value)
    (used_since w.0 (seen c.link.new.ctx) c.args.assembly.now.loose.items held.came)

pub returns-then-is_err-clause-undone : goal.returns-then-is_err-clause-undone
returns-then-is_err-clause-undone g c = λ start mentions waiting holds.
    let held = c.link.ensures.held start mentions c.args.assembly.now.loose.items waiting holds in
    c.discard.ensures.undone start (subst (CameSince start (seen c.link.new.ctx)) (sym c.deref.ensures.value) held.came)

pub returns-clause-held : goal.returns-clause-held
returns-clause-held g c = λ start mentions waiting holds.
    c.link.ensures.held start mentions c.args.assembly.now.loose.items waiting holds

pub returns-then-is_err-clause-erased : goal.returns-then-is_err-clause-erased
returns-then-is_err-clause-erased g c = erased_both _ _ _ c.link.ensures.numbers.erased c.discard.ensures.erased

pub returns-then-is_err-clause-payloads : goal.returns-then-is_err-clause-payloads
returns-then-is_err-clause-payloads g c = λ start mentions waiting holds.
    let held = c.link.ensures.held start mentions c.args.assembly.now.loose.items waiting holds in
    payloads_of_both start _ _ _ (payloads_shown start c.args.ctx.now c.link.new.ctx holds.came.keeps c.link.ensures.numbers.payloads)
    (c.discard.ensures.payloads start (subst (StartIsOutside start (seen c.link.new.ctx)) (sym c.deref.ensures.value) held.came.old))

pub returns-clause-payloads : goal.returns-clause-payloads
returns-clause-payloads g c = λ start mentions waiting holds.
    payloads_shown start c.args.ctx.now c.link.new.ctx holds.came.keeps c.link.ensures.numbers.payloads
