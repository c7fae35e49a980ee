use Rattle.std.proofs.Common.{None, arith}
use Rattle.std.proofs.lemmas.Option.{slice_get-get_or}
use Rattle.opt_chains.proofs.StandInsLemmas.FollowingLemmas.{no_numbers, numbers_more, numbers_all}
use Rattle.opt_chains.proofs.stand_ins.following.numbers_of_given.Goals as goal

pub loop-value-init : goal.loop-value-init
loop-value-init c = no_numbers c.args.inside.now.values.keys c.args.given.now c.new-next.result.items c.new-next.ensures.items

pub loop-value-preserved : goal.loop-value-preserved
loop-value-preserved c = numbers_more c.args.inside.now.values.keys c.args.given.now c.loop-value.value-index c.loop-value.next.items c.push.new.self.items _ c.number_if.result c.loop-value.invariant
    (slice_get-get_or c.args.given.now c.loop-value.value-index None c.loop-value-test.true) c.number_if.ensures c.in_ok-push.ensures.items

pub returns : goal.returns
returns c = numbers_all c.args.inside.now.values.keys c.args.given.now c.loop-value.value-index c.loop-value.next.items (omega arith) c.loop-value.invariant
