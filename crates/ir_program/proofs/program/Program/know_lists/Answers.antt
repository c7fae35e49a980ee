use Rattle.ir_program.specs.Lists.{operations_in, blocks_in, regions_in}
use Rattle.ir_program.proofs.lists.Levels.{one_holder, one_index}
use Rattle.ir_program.proofs.lists.InBlocks.{in_blocks, stands_in_block}
use Rattle.ir_program.proofs.lists.InRegions.{in_regions, stands_in_region}
use Rattle.ir_program.proofs.lists.InOperations.{in_ops, stands_in_operation}
use Rattle.ir_program.proofs.lists.Inside.{operation_not_around, block_not_around, region_not_around}
use Rattle.ir_program.proofs.program.Program.know_lists.Goals as goal

pub returns-clause-operations_once : goal.returns-clause-operations_once
returns-clause-operations_once g c p a b j k s t = (
  one_holder c.args.self.now.forest.ops c.args.self.now.forest.blocks c.args.self.now.forest.in_blocks.lists (operations_in c.args.self.now) (in_blocks c.args.self.now c.know_listed.ensures) p a b j k s t,
  one_index c.args.self.now.forest.ops c.args.self.now.forest.blocks c.args.self.now.forest.in_blocks.lists (operations_in c.args.self.now) (in_blocks c.args.self.now c.know_listed.ensures) p a b j k s t,
)

pub returns-clause-blocks_once : goal.returns-clause-blocks_once
returns-clause-blocks_once g c p a b j k s t = (
  one_holder c.args.self.now.forest.blocks c.args.self.now.forest.regions c.args.self.now.forest.in_regions.lists (blocks_in c.args.self.now) (in_regions c.args.self.now c.know_listed.ensures) p a b j k s t,
  one_index c.args.self.now.forest.blocks c.args.self.now.forest.regions c.args.self.now.forest.in_regions.lists (blocks_in c.args.self.now) (in_regions c.args.self.now c.know_listed.ensures) p a b j k s t,
)

pub returns-clause-regions_once : goal.returns-clause-regions_once
returns-clause-regions_once g c p a b j k s t = (
  one_holder c.args.self.now.forest.regions c.args.self.now.forest.ops c.args.self.now.forest.in_ops.lists (regions_in c.args.self.now) (in_ops c.args.self.now c.know_listed.ensures) p a b j k s t,
  one_index c.args.self.now.forest.regions c.args.self.now.forest.ops c.args.self.now.forest.in_ops.lists (regions_in c.args.self.now) (in_ops c.args.self.now c.know_listed.ensures) p a b j k s t,
)

pub returns-clause-operations : goal.returns-clause-operations
returns-clause-operations g c block k op h = stands_in_block c.args.self.now (in_blocks c.args.self.now c.know_listed.ensures) block k op h

pub returns-clause-blocks : goal.returns-clause-blocks
returns-clause-blocks g c region k block h = stands_in_region c.args.self.now (in_regions c.args.self.now c.know_listed.ensures) region k block h

pub returns-clause-regions : goal.returns-clause-regions
returns-clause-regions g c op k region h = stands_in_operation c.args.self.now (in_ops c.args.self.now c.know_listed.ensures) op k region h

pub returns-clause-operation_apart : goal.returns-clause-operation_apart
returns-clause-operation_apart g c op block s w = operation_not_around c.args.self.now c.know_listed.ensures op block s w

pub returns-clause-block_apart : goal.returns-clause-block_apart
returns-clause-block_apart g c block region s w = block_not_around c.args.self.now c.know_listed.ensures block region s w

pub returns-clause-region_apart : goal.returns-clause-region_apart
returns-clause-region_apart g c region op s w = region_not_around c.args.self.now c.know_listed.ensures region op s w
