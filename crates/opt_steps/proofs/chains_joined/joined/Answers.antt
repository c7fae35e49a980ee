use Rattle.std.proofs.Common.{rules}
use Rattle.opt_steps.proofs.ChainsJoining.{joining_begins, joining_goes_on, joining_ends}
use Rattle.opt_steps.proofs.chains_joined.joined.Goals as goal

pub loop-from-init : goal.loop-from-init
loop-from-init c = joining_begins c.args.blocks.now _ c.new-next.ensures.items

pub loop-from-preserved : goal.loop-from-preserved
loop-from-preserved c = joining_goes_on c.args.blocks.now c.loop-from.from c.loop-from.next.items _ c.target.result c.in_ok-push.ensures.items c.target.ensures c.loop-from.invariant

pub returns : goal.returns
returns c = joining_ends c.args.blocks.now c.loop-from.from c.loop-from.next.items (search rules) c.loop-from.invariant
