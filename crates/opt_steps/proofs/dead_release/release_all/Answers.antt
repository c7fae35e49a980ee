use Rattle.std.proofs.Common.{get_or, subst}
use Rattle.std.proofs.lemmas.List.{get_or_default, take_all}
use Rattle.opt_steps.specs.DeadRelease.{Releases}
use Rattle.opt_steps.proofs.DeadReleasing.{use_left, item_within, work_within, releasing_begins, releasing_goes_on}
use Rattle.opt_steps.proofs.dead_release.release_all.Goals as goal

pub release-requires-clause-uses : goal.release-requires-clause-uses
release-requires-clause-uses c = item_within c.args.items.now c.args.uses.now.items c.loop-item.uses.items c.args.work.now c.loop-item.work c.loop-item.item-index (get_or c.args.items.now c.loop-item.item-index 0) c.loop-item-test.true (get_or_default c.args.items.now c.loop-item.item-index 0 (get_or c.args.items.now c.loop-item.item-index 0) c.loop-item-test.true) c.requires c.loop-item.invariant

pub release-requires-clause-work : goal.release-requires-clause-work
release-requires-clause-work c = work_within c.args.items.now c.args.uses.now.items c.loop-item.uses.items c.args.work.now c.loop-item.work c.loop-item.item-index (get_or c.args.items.now c.loop-item.item-index 0) c.loop-item-test.true (get_or_default c.args.items.now c.loop-item.item-index 0 (get_or c.args.items.now c.loop-item.item-index 0) c.loop-item-test.true) c.requires c.loop-item.invariant

pub release-requires-clause-some : goal.release-requires-clause-some
release-requires-clause-some c = use_left c.args.items.now c.args.uses.now.items c.loop-item.uses.items c.args.work.now c.loop-item.work c.loop-item.item-index (get_or c.args.items.now c.loop-item.item-index 0) c.loop-item-test.true (get_or_default c.args.items.now c.loop-item.item-index 0 (get_or c.args.items.now c.loop-item.item-index 0) c.loop-item-test.true) c.requires c.loop-item.invariant

pub loop-item-init : goal.loop-item-init
loop-item-init c = releasing_begins c.args.uses.now.items c.args.work.now

pub loop-item-preserved : goal.loop-item-preserved
loop-item-preserved c = releasing_goes_on c.args.items.now c.args.uses.now.items c.loop-item.uses.items c.args.work.now c.loop-item.work c.loop-item.item-index (get_or c.args.items.now c.loop-item.item-index 0) c.loop-item-test.true (get_or_default c.args.items.now c.loop-item.item-index 0 (get_or c.args.items.now c.loop-item.item-index 0) c.loop-item-test.true) c.requires c.loop-item.invariant
    c.release.new.uses.items c.release.new.work c.in_ok-release.ensures.uses c.in_ok-release.ensures.work

pub returns : goal.returns
returns c =
    subst (λ xs. Releases xs c.args.uses.now.items c.loop-item.uses.items c.args.work.now c.loop-item.work)
    (take_all c.loop-item.item-index c.args.items.now c.loop-item-test.false)
    c.loop-item.invariant
