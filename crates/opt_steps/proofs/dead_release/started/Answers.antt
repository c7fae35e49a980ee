use Rattle.std.proofs.Common.{rules, arith}
use Rattle.opt_steps.proofs.DeadReleasing.{starting_begins, starting_goes_on, starting_ends}
use Rattle.opt_steps.proofs.dead_release.started.Goals as goal

pub loop-item-init : goal.loop-item-init
loop-item-init c = starting_begins c.args.uses.now _ c.in_ok-work.work (search rules) c.in_ok-work.ensures

pub add_if_unused-requires : goal.add_if_unused-requires
add_if_unused-requires c = let l = c.loop-item.invariant.len in let t = c.loop-item-test.true in omega (arith, l, t)

pub loop-item-preserved : goal.loop-item-preserved
loop-item-preserved c = starting_goes_on c.args.uses.now c.loop-item.item c.loop-item.work c.add_if_unused.new.work c.loop-item-test.true c.in_ok-add_if_unused.ensures c.loop-item.invariant

pub returns : goal.returns
returns c = starting_ends c.args.uses.now c.loop-item.item c.loop-item.work (search rules) c.loop-item.invariant
