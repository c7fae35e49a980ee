use Rattle.std.proofs.Common.{◌≡◌, None, replicate, ◌∙◌, rules, arith}
use Rattle.std.proofs.lemmas.Option.{slice_get-get_or}
use Rattle.ir_program.specs.Program.{no_handle}
use Rattle.opt_chains.specs.declared.merging.Join.{Join}
use Rattle.opt_chains.proofs.StandInsLemmas.ForwardingLemmas.{forwarded_is, forwarded_none, forwarded_more, forwarded_all, block_there, branch_there}
use Rattle.opt_chains.proofs.stand_ins.forwarding.forwarded_values.Goals as goal

-- a step that is never taken
abbrev no_join : Join
no_join = record { first = no_handle; branch = no_handle; block = no_handle }

pub loop-join-init : goal.loop-join-init
loop-join-init g c =
    let blank : c.in_ok-given.given.items ≡ replicate c.len.result None = c.in_ok-given.ensures.items_if_clones_equal (λ y h. search rules) in
    forwarded_none g.D.Meanings.meaning c.args.program.now c.args.inside.now.values.keys c.args.joins.now c.in_ok-given.given.items c.len.result c.len.ensures.len blank

pub forwarded_operands-requires : goal.forwarded_operands-requires
forwarded_operands-requires g c = branch_there g.D.Meanings.meaning c.args.program.now c.args.inside.now.values.keys c.args.joins.now c.requires.can c.loop-join.join-index _ (slice_get-get_or c.args.joins.now c.loop-join.join-index no_join c.loop-join-test.true)

pub give_arguments-requires-clause-live : goal.give_arguments-requires-clause-live
give_arguments-requires-clause-live g c = block_there g.D.Meanings.meaning c.args.program.now c.args.inside.now.values.keys c.args.joins.now c.requires.can c.loop-join.join-index _ (slice_get-get_or c.args.joins.now c.loop-join.join-index no_join c.loop-join-test.true)

pub loop-join-preserved : goal.loop-join-preserved
loop-join-preserved g c =
    let here = slice_get-get_or c.args.joins.now c.loop-join.join-index no_join c.loop-join-test.true in
    let there = branch_there g.D.Meanings.meaning c.args.program.now c.args.inside.now.values.keys c.args.joins.now c.requires.can c.loop-join.join-index _ here in
    forwarded_more g.D.Meanings.meaning c.args.program.now c.args.inside.now.values.keys c.args.joins.now c.loop-join.join-index _ c.as_slice.result.now c.loop-join.given.items c.give_arguments.new.given.items
    here (c.as_slice.ensures.value ∙ forwarded_is g.D.Meanings.meaning c.args.program.now c.args.inside.now.values.keys c.args.joins.now _ c.in_ok-values.values.items there c.in_ok-values.ensures) c.loop-join.invariant c.give_arguments.ensures

pub returns : goal.returns
returns g c = forwarded_all g.D.Meanings.meaning c.args.program.now c.args.inside.now.values.keys c.args.joins.now c.loop-join.join-index c.loop-join.given.items (omega arith) c.loop-join.invariant
