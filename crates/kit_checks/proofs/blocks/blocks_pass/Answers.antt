use Rattle.std.proofs.Common.{◌≡◌, Some, sym, subst, slice_get}
use Rattle.ir_trees.proofs.Members.{has_at}
use Rattle.ir_program.specs.Lists.{StandsInOperation, regions_in}
use Rattle.kit_checks.specs.Passing.{BlockPasses}
use Rattle.kit_checks.specs.World.{world_of}
use Rattle.kit_checks.proofs.Passed.{seen_more, seen_all, next_has, RegionGood, region_good_if, bad_region, all_regions}
use Rattle.kit_checks.proofs.blocks.blocks_pass.Goals as goal

pub region_passes-requires : goal.region_passes-requires
region_passes-requires c =
    let k = has_at (regions_in c.args.ctx.now.program c.args.op) c.in-Some.region
    (next_has (RegionGood c.args.ctx.now.program (BlockPasses (world_of c.args.ctx.now) c.args.test)) (regions_in c.args.ctx.now.program c.args.op) c.loop-region.region-iterator c.next.new.self c.in-Some.region c.in-Some.ensures.steps c.loop-region.invariant) in
    (subst (λ p. StandsInOperation p c.in-Some.region c.args.op) c.program-program.ensures
    (c.know_lists.ensures.regions c.args.op k.0 c.in-Some.region (subst (λ p. slice_get (regions_in p c.args.op) k.0 ≡ Some c.in-Some.region) (sym c.program-program.ensures) k.1))).region

pub loop-region-preserved : goal.loop-region-preserved
loop-region-preserved c =
    seen_more (RegionGood c.args.ctx.now.program (BlockPasses (world_of c.args.ctx.now) c.args.test)) (regions_in c.args.ctx.now.program c.args.op) c.loop-region.region-iterator c.next.new.self c.in-Some.region c.in-Some.ensures.steps
    (region_good_if c.args.ctx.now.program (BlockPasses (world_of c.args.ctx.now) c.args.test) c.in-Some.region c.region_passes.result c.if-not-region_passes.false c.region_passes.ensures) c.loop-region.invariant

pub returns-then-not-region_passes : goal.returns-then-not-region_passes
returns-then-not-region_passes c =
    bad_region c.args.ctx.now.program (BlockPasses (world_of c.args.ctx.now) c.args.test) c.args.op c.in-Some.region c.region_passes.result
    (next_has (RegionGood c.args.ctx.now.program (BlockPasses (world_of c.args.ctx.now) c.args.test)) (regions_in c.args.ctx.now.program c.args.op) c.loop-region.region-iterator c.next.new.self c.in-Some.region c.in-Some.ensures.steps c.loop-region.invariant)
    c.if-not-region_passes.true c.region_passes.ensures

pub returns : goal.returns
returns c =
    all_regions c.args.ctx.now.program (BlockPasses (world_of c.args.ctx.now) c.args.test) c.args.op
    (seen_all (RegionGood c.args.ctx.now.program (BlockPasses (world_of c.args.ctx.now) c.args.test)) (regions_in c.args.ctx.now.program c.args.op) c.loop-region.region-iterator c.in-None.ensures.steps.0 c.loop-region.invariant)
