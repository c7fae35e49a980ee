use Rattle.std.proofs.Common.{length, ap, arith}
use Rattle.opt_inside.specs.Numbered.{numbers_of}
use Rattle.opt_dce.specs.liveness.Taken.{AreGoing, HasGoing, block_of}
use Rattle.opt_dce.proofs.LivenessLemmas.Partway.{item_at}
use Rattle.opt_dce.proofs.LivenessLemmas.Picking.{picks_step, picks_end}
use Rattle.opt_dce.proofs.liveness.taking.dead_arguments.Goals as goal

pub take_arguments-requires-clause-live : goal.take_arguments-requires-clause-live
take_arguments-requires-clause-live g c = c.requires.there.blocks _ (c.loop-block.block-index, item_at c.as_slice-block-items.result.now c.args.inside.now.blocks.keys c.loop-block.block-index _ c.as_slice-block-items.ensures.keys c.loop-block-test.true)

pub loop-block-preserved : goal.loop-block-preserved
loop-block-preserved g c =
    let here = item_at c.as_slice-block-items.result.now c.args.inside.now.blocks.keys c.loop-block.block-index _ c.as_slice-block-items.ensures.keys c.loop-block-test.true in
    picks_step block_of (λ a. AreGoing c.args.program.now (numbers_of c.args.inside.now) c.args.arguments.now a.block a.marks.items) (HasGoing c.args.program.now (numbers_of c.args.inside.now) c.args.arguments.now) c.args.inside.now.blocks.keys c.requires.blocks_once
    (λ a. AreGoing c.args.program.now (numbers_of c.args.inside.now) c.args.arguments.now a.block a.marks.items) _ c.loop-block.block-index _ c.loop-block.dead.items c.take_arguments.new.dead.items here
    (λ a e going. going)
    (λ goes. goes)
    (λ goes. goes)
    c.loop-block.invariant c.in_ok-take_arguments.ensures

pub returns : goal.returns
returns g c = picks_end block_of (λ a. AreGoing c.args.program.now (numbers_of c.args.inside.now) c.args.arguments.now a.block a.marks.items) (HasGoing c.args.program.now (numbers_of c.args.inside.now) c.args.arguments.now) c.args.inside.now.blocks.keys c.requires.blocks_once c.loop-block.block-index c.loop-block.dead.items (let end = c.loop-block-test.false in let keys = ap length c.as_slice-block-items.ensures.keys in omega arith) c.loop-block.invariant
