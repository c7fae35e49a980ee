use Rattle.ir_program.specs.Lists.{regions_in}
use Rattle.kit_checks.specs.Passing.{BlockPasses}
use Rattle.kit_checks.specs.World.{world_of}
use Rattle.kit_checks.proofs.Passed.{IsSeen, RegionGood}
use Rattle.kit_checks.proofs.blocks.blocks_pass.Given as goal

-- those that were seen pass the test
abbrev pub invariant-loop-region : goal.invariant-loop-region
invariant-loop-region l = IsSeen (RegionGood l.ctx.program (BlockPasses (world_of l.ctx) l.test)) (regions_in l.ctx.program l.fn.op) l.region-iterator
