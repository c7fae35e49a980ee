use Rattle.std.proofs.Common.{subst}
use Rattle.text_dialect.specs.Seen.{seen}
use Rattle.text_frames.proofs.BuildingLemmas.Discarded.{bare_loose, bare_outside, bare_unused, erases_bare, undone}
use Rattle.text_frames.proofs.BuildingLemmas.Shown.{payloads_of_both}
use Rattle.text_frames.proofs.BuildingLemmas.Stood.{HasLists, seen_forest}
use Rattle.text_frames.proofs.building.discarding.discard.Goals as goal

pub erase_all-requires-clause-loose : goal.erase_all-requires-clause-loose
erase_all-requires-clause-loose g c = bare_loose (seen c.args.ctx.now) (seen c.drop_uses.new.ctx) c.args.things.now c.drop_uses.ensures.dropped c.requires.loose

pub erase_all-requires-clause-unused : goal.erase_all-requires-clause-unused
erase_all-requires-clause-unused g c = bare_unused (seen c.args.ctx.now) (seen c.drop_uses.new.ctx) c.args.things.now c.drop_uses.ensures.dropped c.requires.used

pub returns-clause-gone : goal.returns-clause-gone
returns-clause-gone g c = erases_bare (seen c.args.ctx.now) (seen c.drop_uses.new.ctx) c.args.things.now c.drop_uses.ensures.dropped (seen c.erase_all.new.ctx) c.erase_all.ensures.gone

pub returns-clause-undone : goal.returns-clause-undone
returns-clause-undone g c start came =
    let lists : HasLists c.program.result.now = assumption c.know_lists.ensures in
    let first : HasLists c.args.ctx.now.program = subst HasLists c.program.ensures lists in
    undone start (seen c.args.ctx.now) c.args.things.now came (seen_forest c.args.ctx.now first) c.requires.loose (seen c.erase_all.new.ctx)
    (erases_bare (seen c.args.ctx.now) (seen c.drop_uses.new.ctx) c.args.things.now c.drop_uses.ensures.dropped (seen c.erase_all.new.ctx) c.erase_all.ensures.gone)

pub returns-clause-payloads : goal.returns-clause-payloads
returns-clause-payloads g c start out =
    payloads_of_both start c.args.ctx.now.program c.drop_uses.new.ctx.program c.erase_all.new.ctx.program (c.drop_uses.ensures.payloads start out)
    (c.erase_all.ensures.payloads start (bare_outside (seen c.args.ctx.now) (seen c.drop_uses.new.ctx) c.args.things.now c.drop_uses.ensures.dropped start out))
