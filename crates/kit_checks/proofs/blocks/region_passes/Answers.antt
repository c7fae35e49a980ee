use Rattle.std.proofs.Common.{◌≡◌, Some, sym, subst, slice_get}
use Rattle.ir_trees.proofs.Members.{has_at}
use Rattle.ir_program.specs.Lists.{StandsInRegion, blocks_in}
use Rattle.kit_checks.specs.Passing.{BlockPasses}
use Rattle.kit_checks.specs.World.{world_of}
use Rattle.kit_checks.proofs.Passed.{seen_more, seen_all, next_has, BlockGood, good_if, bad_block, all_blocks}
use Rattle.kit_checks.proofs.blocks.region_passes.Goals as goal

pub block_passes-requires : goal.block_passes-requires
block_passes-requires c =
    let k = has_at (blocks_in c.args.ctx.now.program c.args.region) c.in-Some.block
    (next_has (BlockGood c.args.ctx.now.program (BlockPasses (world_of c.args.ctx.now) c.args.test)) (blocks_in c.args.ctx.now.program c.args.region) c.loop-block.block-iterator c.next.new.self c.in-Some.block c.in-Some.ensures.steps c.loop-block.invariant) in
    (subst (λ p. StandsInRegion p c.in-Some.block c.args.region) c.program-program.ensures
    (c.know_lists.ensures.blocks c.args.region k.0 c.in-Some.block (subst (λ p. slice_get (blocks_in p c.args.region) k.0 ≡ Some c.in-Some.block) (sym c.program-program.ensures) k.1))).block

pub loop-block-preserved : goal.loop-block-preserved
loop-block-preserved c =
    seen_more (BlockGood c.args.ctx.now.program (BlockPasses (world_of c.args.ctx.now) c.args.test)) (blocks_in c.args.ctx.now.program c.args.region) c.loop-block.block-iterator c.next.new.self c.in-Some.block c.in-Some.ensures.steps
    (good_if c.args.ctx.now.program (BlockPasses (world_of c.args.ctx.now) c.args.test) c.in-Some.block c.block_passes.result c.if-not-block_passes.false c.block_passes.ensures) c.loop-block.invariant

pub returns-then-not-block_passes : goal.returns-then-not-block_passes
returns-then-not-block_passes c =
    bad_block c.args.ctx.now.program (BlockPasses (world_of c.args.ctx.now) c.args.test) c.args.region c.in-Some.block c.block_passes.result
    (next_has (BlockGood c.args.ctx.now.program (BlockPasses (world_of c.args.ctx.now) c.args.test)) (blocks_in c.args.ctx.now.program c.args.region) c.loop-block.block-iterator c.next.new.self c.in-Some.block c.in-Some.ensures.steps c.loop-block.invariant)
    c.if-not-block_passes.true c.block_passes.ensures

pub returns : goal.returns
returns c =
    all_blocks c.args.ctx.now.program (BlockPasses (world_of c.args.ctx.now) c.args.test) c.args.region
    (seen_all (BlockGood c.args.ctx.now.program (BlockPasses (world_of c.args.ctx.now) c.args.test)) (blocks_in c.args.ctx.now.program c.args.region) c.loop-block.block-iterator c.in-None.ensures.steps.0 c.loop-block.invariant)
