use Rattle.ir_program.specs.Lists.{blocks_in}
use Rattle.kit_checks.specs.Passing.{BlockPasses}
use Rattle.kit_checks.specs.World.{world_of}
use Rattle.kit_checks.proofs.Passed.{IsSeen, BlockGood}
use Rattle.kit_checks.proofs.blocks.region_passes.Given as goal

-- those that were seen pass the test
abbrev pub invariant-loop-block : goal.invariant-loop-block
invariant-loop-block l = IsSeen (BlockGood l.ctx.program (BlockPasses (world_of l.ctx) l.test)) (blocks_in l.ctx.program l.fn.region) l.block-iterator
