use Rattle.std.proofs.lemmas.Result.{IfOk-at_ok}
use Rattle.std.proofs.Common.{sym, subst}
use Rattle.text_dialect.specs.Seen.{seen}
use Rattle.text_frames.specs.building.Inside.{AreUsedInside, StartIsOutside}
use Rattle.text_frames.proofs.BuildingLemmas.Discarded.{used_since}
use Rattle.text_frames.specs.Raised.{HoldsAllNew}
use Rattle.text_reading.proofs.reading.undo.Goals as goal

pub discard-requires-clause-used : goal.discard-requires-clause-used
discard-requires-clause-used g c =
    let s = seen c.args.ctx.now in
    let held = IfOk-at_ok (λ a. HoldsAllNew c.requires.held.0 s a.loose.items) c.in-Ok.is c.requires.held.1 in
    subst (AreUsedInside s) (sym c.deref.ensures.value) (used_since c.requires.held.0 s c.in-Ok.assembly.loose.items held.came)

pub returns-in-Ok-clause-payloads : goal.returns-in-Ok-clause-payloads
returns-in-Ok-clause-payloads g c = λ start holds.
    let s = seen c.args.ctx.now in
    let held = IfOk-at_ok (λ a. HoldsAllNew start s a.loose.items) c.in-Ok.is holds in
    c.discard.ensures.payloads start (subst (StartIsOutside start s) (sym c.deref.ensures.value) held.came.old)
