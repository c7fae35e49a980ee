use Rattle.std.proofs.Common.{ap, arith}
use Rattle.std.proofs.lemmas.Option.{slice_get-get_or}
use Rattle.opt_chains.proofs.StandInsLemmas.ForwardingLemmas.{paired_none, paired_more, paired_past, paired_all}
use Rattle.opt_chains.proofs.stand_ins.forwarding.give_arguments.Goals as goal
use Rattle.opt_chains.proofs.stand_ins.forwarding.give_arguments.Goals.{then-index-count, else-index-count}

pub loop-index-init : goal.loop-index-init
loop-index-init g c = paired_none c.args.program.now c.args.block c.args.inside.now.values.keys c.args.values.now c.args.given.now.items

pub loop-index-preserved : goal.loop-index-preserved
loop-index-preserved g c =
    let us = c.args.values.now in
    let i = c.loop-index.index in
    elim c.if-index-count.branch [
      | then-index-count w ↦ paired_more c.args.program.now c.args.block c.args.inside.now.values.keys us i w.argument.result _ c.args.given.now.items c.loop-index.given.items _ c.if-index-count.given.items
          c.loop-index.invariant w.give.ensures (ap (λ x. x.items) w.given-is) w.argument.ensures.value (slice_get-get_or us i _ c.loop-index-test.true)
      | else-index-count w ↦ paired_past c.args.program.now c.args.block c.args.inside.now.values.keys us i c.args.given.now.items c.loop-index.given.items c.if-index-count.given.items
          (omega arith) c.loop-index.invariant (ap (λ x. x.items) w.given-is)
    ]

pub returns : goal.returns
returns g c = paired_all c.args.program.now c.args.block c.args.inside.now.values.keys c.args.values.now c.loop-index.index c.args.given.now.items c.loop-index.given.items (omega arith) c.loop-index.invariant
